use Rattle.std.proofs.Common.{sym, subst, arith, below_more}
use Rattle.std.proofs.lemmas.Option.{get_or_from_slice_get, slice_get_within}
use Rattle.units.proofs.Lists.OneValue.{clash}
use Rattle.units.proofs.Lists.Positions.{In_contains, index_of}
use Rattle.weave.specs.Steps.{HasMessage}
use Rattle.weave.proofs.numbers.find_number.Goals as goal

pub returns-then-is_there-clause-some : goal.returns-then-is_there-clause-some
returns-then-is_there-clause-some c = c.is_there.ensures.0 c.if-is_there.true

pub loop-number-preserved : goal.loop-number-preserved
loop-number-preserved c = below_more _ _ c.loop-number.invariant (λ h. clash c.is_there.result (c.is_there.ensures.1 h) c.if-is_there.false)

pub returns-clause-none : goal.returns-clause-none
returns-clause-none c k i h =
    let at = index_of c.args.numbers.now k (In_contains c.args.numbers.now k i) in
    let below = slice_get_within c.args.numbers.now at.0 k at.1 in
    c.loop-number.invariant at.0 (omega (arith, below, c.loop-number-test.false))
    (subst (λ z. HasMessage c.args.world.now.bag c.args.message.now z) (sym (get_or_from_slice_get c.args.numbers.now at.0 k 0 at.1)) h)
