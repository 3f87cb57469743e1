use Rattle.std.proofs.Common.{◌∷◌, sym, subst, ◌∙◌}
use Rattle.units.specs.Apart.{AllApart}
use Rattle.units.proofs.SharedUnits.{none_met, one_met}
use Rattle.units.proofs.overlap.overlaps.Goals as goal

pub returns-then-meets_any-clause-some : goal.returns-then-meets_any-clause-some
returns-then-meets_any-clause-some c apart =
    let split = c.in-Some.ensures.cases.0 in
    let left : AllApart (c.in-Some.block.now ∷ c.in-Some.later.now) = subst AllApart split (c.loop-block.invariant.from apart) in
    one_met c.in-Some.block.now c.in-Some.later.now (sym c.meets_any.ensures ∙ c.if-meets_any.true) left.0

pub loop-block-preserved : goal.loop-block-preserved
loop-block-preserved c =
    let split = c.in-Some.ensures.cases.0 in
    record {
      to = λ apart. c.loop-block.invariant.to (subst AllApart (sym split) (none_met c.in-Some.block.now c.in-Some.later.now (sym c.meets_any.ensures ∙ c.if-meets_any.false), apart));
      from = λ apart. (subst AllApart split (c.loop-block.invariant.from apart)).1;
    }
