use Rattle.std.proofs.Common.{◌++◌, ap, sym, ◌∙◌, append_assoc}
use Rattle.scheme.specs.Order.{blocks_of}
use Rattle.std.proofs.Common.{take}
use Rattle.scheme.proofs.Blocks.{blocks_more}
use Rattle.scheme.proofs.faults.push_units.Goals as goal

pub loop-allotment-preserved : goal.loop-allotment-preserved
loop-allotment-preserved c =
    let before = blocks_of (take c.loop-allotment.allotment-index c.args.allotted.now) in
    c.in_ok-extend_from_slice.ensures.items ∙ ap (λ us. c.loop-allotment.all.items ++ us) c.as_slice.ensures ∙ ap (λ bs. bs ++ c.allotment-item.result.units) c.loop-allotment.invariant
    ∙ append_assoc c.args.all.now.items before c.allotment-item.result.units
    ∙ ap (λ bs. c.args.all.now.items ++ bs) (sym (blocks_more c.args.allotted.now c.loop-allotment.allotment-index c.allotment-item.result c.loop-allotment-test.true c.allotment-item.is))
