use Rattle.std.proofs.Common.{Some, sym, ap, ◌∙◌}
use Rattle.units.specs.Intervals.{has}
use Rattle.units.proofs.SpanReads.{told_some, told_lacking, told_none}
use Rattle.units.proofs.UnitLines.{gt_false, gt_false_from, lt_false}
use Rattle.units.proofs.unit_map.finding.interval_with.Goals as goal

pub returns-in_err-at-clause-none : goal.returns-in_err-at-clause-none
returns-in_err-at-clause-none g c = rw c.from_residual.ensures (told_none c.args.spans.now c.requires.parted c.requires.ordered c.args.unit.now (λ q up. c.in_err-at.ensures.none q (gt_false_from q c.args.unit.now up)))

pub returns-then-has-clause-some : goal.returns-then-has-clause-some
returns-then-has-clause-some g c = (
  sym c.has.ensures ∙ c.if-has.true,
  λ u h. told_some c.args.spans.now c.requires.parted c.requires.ordered c.in_ok-at.at c.in_ok-at.span c.in_ok-at.ensures.found.0 u (ap (λ i. has i u) (sym c.interval-interval.ensures) ∙ h) ∙ ap (λ i. Some i.label) (sym c.interval-interval.ensures),
)

pub returns-else-has-clause-none : goal.returns-else-has-clause-none
returns-else-has-clause-none g c =
    told_lacking c.args.spans.now c.requires.parted c.requires.ordered c.in_ok-at.at c.args.unit.now c.in_ok-at.span c.in_ok-at.ensures.found.0 (gt_false c.in_ok-at.at c.args.unit.now c.in_ok-at.ensures.found.1)
    (λ q up some. lt_false c.in_ok-at.at q (c.in_ok-at.ensures.last q (gt_false_from q c.args.unit.now up) some))
    (ap (λ i. has i c.args.unit.now) (sym c.interval-interval.ensures) ∙ sym c.has.ensures ∙ c.if-has.false)
