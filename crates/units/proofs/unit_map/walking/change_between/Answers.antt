use Rattle.std.proofs.Common.{sym, subst, ◌∙◌, arith}
use Rattle.std.specs.BTreeMap as tree
use Rattle.units.specs.Keys.{unit_cmp}
use Rattle.units.proofs.SpanWalks.{ChangedTo, changed_more, changed_inside, changed_outside, before_up, nearer}
use Rattle.units.proofs.SpanPuts.{not_some}
use Rattle.units.proofs.UnitLines.{gt_false, gt_false_from, lt_true, lt_false}
use Rattle.units.proofs.unit_map.walking.change_between.Goals as goal

pub loop-unit-preserved : goal.loop-unit-preserved
loop-unit-preserved g c =
    let R = goal.F-post g c.args.change.now in
    let now = c.loop-unit.spans in
    let unit = c.in-Some.unit in
    let new = c.respan.new.spans in
    subst (λ u. ChangedTo R c.args.from c.args.to u c.args.spans.now new) (sym c.after-cursor.ensures)
    (changed_more R c.args.from c.args.to c.loop-unit.cursor unit c.in-Some.span c.change.result c.args.spans.now now new c.loop-unit.invariant c.in-Some.ensures.found.0 (gt_false c.loop-unit.cursor unit c.in-Some.ensures.found.1)
    (lt_false c.args.to unit (sym c.is_past.ensures ∙ c.if-is_past.false))
    (λ q up some. gt_false unit q (c.in-Some.ensures.first q (gt_false_from c.loop-unit.cursor q up) some))
    c.change.ensures c.respan.ensures.puts c.respan.ensures.ordered)

pub after-cursor-requires : goal.after-cursor-requires
after-cursor-requires g c = let r = c.loop-unit.invariant.parted.ranges c.in-Some.unit c.in-Some.span c.in-Some.ensures.found.0 in omega arith

pub loop-unit-smaller : goal.loop-unit-smaller
loop-unit-smaller g c =
    let r = c.loop-unit.invariant.parted.ranges c.in-Some.unit c.in-Some.span c.in-Some.ensures.found.0 in
    rw c.after-cursor.ensures (nearer c.loop-unit.cursor c.in-Some.unit c.loop-unit.invariant.start r.0 (omega arith) (gt_false c.loop-unit.cursor c.in-Some.unit c.in-Some.ensures.found.1))

pub returns-then-is_past-clause-inside : goal.returns-then-is_past-clause-inside
returns-then-is_past-clause-inside g c =
    let unit = c.in-Some.unit in
    changed_inside (goal.F-post g c.args.change.now) c.args.from c.args.to c.loop-unit.cursor c.args.spans.now c.loop-unit.spans c.loop-unit.invariant
    (λ q up some. before_up c.args.to unit q (lt_true c.args.to unit (sym c.is_past.ensures ∙ c.if-is_past.true)) (gt_false unit q (c.in-Some.ensures.first q (gt_false_from c.loop-unit.cursor q up) some)))

pub returns-in_default-clause-inside : goal.returns-in_default-clause-inside
returns-in_default-clause-inside g c =
    changed_inside (goal.F-post g c.args.change.now) c.args.from c.args.to c.loop-unit.cursor c.args.spans.now c.loop-unit.spans c.loop-unit.invariant
    (λ q up some. absurd (not_some (tree.get unit_cmp c.loop-unit.spans q) (c.in_default.ensures.none q (gt_false_from c.loop-unit.cursor q up)) some))

pub returns-then-is_past-clause-outside : goal.returns-then-is_past-clause-outside
returns-then-is_past-clause-outside g c = changed_outside (goal.F-post g c.args.change.now) c.args.from c.args.to c.loop-unit.cursor c.args.spans.now c.loop-unit.spans c.loop-unit.invariant

pub returns-in_default-clause-outside : goal.returns-in_default-clause-outside
returns-in_default-clause-outside g c = changed_outside (goal.F-post g c.args.change.now) c.args.from c.args.to c.loop-unit.cursor c.args.spans.now c.loop-unit.spans c.loop-unit.invariant
