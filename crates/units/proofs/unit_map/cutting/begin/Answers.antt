use Rattle.std.proofs.Common.{◌≡◌, true, sym, ap, subst, ◌∙◌}
use Rattle.std.specs.BTreeMap as tree
use Rattle.units.specs.Intervals.{has}
use Rattle.units.specs.Keys.{unit_cmp}
use Rattle.units.specs.SpanSteps.{IsBegun}
use Rattle.units.specs.Spans.{interval_at}
use Rattle.units.proofs.SpanCuts.{begun_at_key, begun_nowhere, floor_none, floor_lacks, absent_where_none}
use Rattle.units.proofs.UnitLines.{in_true, gt_false, gt_false_from, lt_false, same_unit}
use Rattle.units.proofs.unit_map.cutting.begin.Goals as goal
use Rattle.units.proofs.unit_map.cutting.begin.Goals.{in_default-via-in-Some+else-has, in_default-via-in_default}

pub returns-then-at-unit-clause-begun : goal.returns-then-at-unit-clause-begun
returns-then-at-unit-clause-begun g c =
    let held = tree.get unit_cmp c.args.spans.now in
    let here : has (interval_at c.in-Some.at c.in-Some.span) c.args.unit ≡ true = ap (λ i. has i c.args.unit) (sym c.interval.ensures) ∙ sym c.has.ensures ∙ c.if-has.true in
    let same = same_unit c.in-Some.at c.args.unit (in_true c.in-Some.at c.in-Some.span c.args.unit here).line c.if-at-unit.true in
    begun_at_key c.args.unit c.args.label c.in-Some.span held c.requires.parted (ap held (sym same) ∙ c.in-Some.ensures.found.0) (subst (λ k. has (interval_at k c.in-Some.span) c.args.unit ≡ true) same here)

pub put-requires-clause-none : goal.put-requires-clause-none
put-requires-clause-none g c =
    let held = tree.get unit_cmp c.args.spans.now in
    elim c.in_default.branch [
      | in_default-via-in-Some+else-has w ↦
          floor_lacks held c.requires.parted w.in-Some.at c.args.unit w.in-Some.span w.in-Some.ensures.found.0 (gt_false w.in-Some.at c.args.unit w.in-Some.ensures.found.1)
          (λ q up some. lt_false w.in-Some.at q (w.in-Some.ensures.last q (gt_false_from q c.args.unit up) some))
          (ap (λ i. has i c.args.unit) (sym w.interval.ensures) ∙ sym w.has.ensures ∙ w.if-has.false)
      | in_default-via-in_default w ↦ floor_none held c.args.unit (λ q up. w.in_default.ensures.none q (gt_false_from q c.args.unit up))
    ]

pub put-requires-clause-absent : goal.put-requires-clause-absent
put-requires-clause-absent g c =
    let held = tree.get unit_cmp c.args.spans.now in
    absent_where_none held c.requires.parted c.args.unit (elim c.in_default.branch [
      | in_default-via-in-Some+else-has w ↦
          floor_lacks held c.requires.parted w.in-Some.at c.args.unit w.in-Some.span w.in-Some.ensures.found.0 (gt_false w.in-Some.at c.args.unit w.in-Some.ensures.found.1)
          (λ q up some. lt_false w.in-Some.at q (w.in-Some.ensures.last q (gt_false_from q c.args.unit up) some))
          (ap (λ i. has i c.args.unit) (sym w.interval.ensures) ∙ sym w.has.ensures ∙ w.if-has.false)
      | in_default-via-in_default w ↦ floor_none held c.args.unit (λ q up. w.in_default.ensures.none q (gt_false_from q c.args.unit up))
    ])

pub returns-in-None-clause-begun : goal.returns-in-None-clause-begun
returns-in-None-clause-begun g c =
    let held = tree.get unit_cmp c.args.spans.now in
    subst (λ m. IsBegun c.args.unit m held held) (sym c.in-None.is) (begun_nowhere c.args.unit held c.requires.parted (elim c.in_default.branch [
      | in_default-via-in-Some+else-has w ↦
          floor_lacks held c.requires.parted w.in-Some.at c.args.unit w.in-Some.span w.in-Some.ensures.found.0 (gt_false w.in-Some.at c.args.unit w.in-Some.ensures.found.1)
          (λ q up some. lt_false w.in-Some.at q (w.in-Some.ensures.last q (gt_false_from q c.args.unit up) some))
          (ap (λ i. has i c.args.unit) (sym w.interval.ensures) ∙ sym w.has.ensures ∙ w.if-has.false)
      | in_default-via-in_default w ↦ floor_none held c.args.unit (λ q up. w.in_default.ensures.none q (gt_false_from q c.args.unit up))
    ]))
