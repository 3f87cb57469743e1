use Rattle.std.proofs.Common.{sym, subst, ◌∙◌}
use Rattle.std.specs.BTreeMap as tree
use Rattle.units.specs.Keys.{unit_cmp}
use Rattle.units.proofs.SpanWalks.{JoinedTo, joined_more, joined_at_end, before_up}
use Rattle.units.proofs.SpanPuts.{not_some}
use Rattle.units.proofs.UnitLines.{gt_false, gt_false_from, lt_true}
use Rattle.units.proofs.unit_map.joining.join_between.Goals as goal

pub loop-unit-preserved : goal.loop-unit-preserved
loop-unit-preserved g c =
    let now = c.loop-unit.spans in
    let unit = c.in-Some.unit in
    subst (λ u. JoinedTo c.args.from u c.args.spans.now c.join.new.spans) (sym c.after-cursor.ensures)
    (joined_more c.args.from c.loop-unit.cursor unit c.in-Some.span c.args.spans.now now c.join.new.spans c.loop-unit.invariant c.in-Some.ensures.found.0 (gt_false c.loop-unit.cursor unit c.in-Some.ensures.found.1)
    (λ q up some. gt_false unit q (c.in-Some.ensures.first q (gt_false_from c.loop-unit.cursor q up) some))
    c.join.ensures.parted c.join.ensures.ordered c.join.ensures.means c.join.ensures.seams)

pub returns-then-is_past-clause-seams : goal.returns-then-is_past-clause-seams
returns-then-is_past-clause-seams g c =
    let unit = c.in-Some.unit in
    joined_at_end c.args.from c.args.to c.loop-unit.cursor c.args.spans.now c.loop-unit.spans c.loop-unit.invariant
    (λ q up some. before_up c.args.to unit q (lt_true c.args.to unit (sym c.is_past.ensures ∙ c.if-is_past.true)) (gt_false unit q (c.in-Some.ensures.first q (gt_false_from c.loop-unit.cursor q up) some)))

pub returns-in_default-clause-seams : goal.returns-in_default-clause-seams
returns-in_default-clause-seams g c =
    joined_at_end c.args.from c.args.to c.loop-unit.cursor c.args.spans.now c.loop-unit.spans c.loop-unit.invariant
    (λ q up some. absurd (not_some (tree.get unit_cmp c.loop-unit.spans q) (c.in_default.ensures.none q (gt_false_from c.loop-unit.cursor q up)) some))
