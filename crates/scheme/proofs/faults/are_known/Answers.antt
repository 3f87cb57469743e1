use Rattle.std.proofs.Common.{sym, ◌∙◌}
use Rattle.scheme.specs.Reading.{IsKnown}
use Rattle.scheme.proofs.Told.{no, each_here, each_step, found, not_found}
use Rattle.scheme.proofs.faults.are_known.Goals as goal

pub returns-then-is_err : goal.returns-then-is_err
returns-then-is_err c =
    no (λ all. not_found c.args.accounts.now c.allotment-item.result.account c.binary_search.result c.binary_search.ensures.position c.requires (sym c.is_err.ensures.value ∙ c.if-is_err.true)
    (each_here (λ a. IsKnown c.args.accounts.now a.account) c.args.allotted.now c.loop-allotment.allotment-index c.allotment-item.result c.loop-allotment-test.true c.allotment-item.is all))

pub loop-allotment-preserved : goal.loop-allotment-preserved
loop-allotment-preserved c =
    each_step (λ a. IsKnown c.args.accounts.now a.account) c.args.allotted.now c.loop-allotment.allotment-index c.allotment-item.result c.loop-allotment-test.true c.allotment-item.is
    c.loop-allotment.invariant
    (found c.args.accounts.now c.allotment-item.result.account c.binary_search.result c.binary_search.ensures.position c.requires (sym c.is_err.ensures.value ∙ c.if-is_err.false))
