use Rattle.std.proofs.Common.{find, sym, ap, ◌∙◌}
use Rattle.std.specs.BTreeMap as tree
use Rattle.std.specs.Option.{option_map_or}
use Rattle.units.specs.Keys.{unit_cmp}
use Rattle.units.specs.SpanSteps.{set_to}
use Rattle.units.specs.Spans.{intervals_of, labels_in}
use Rattle.units.specs.Unit.{has_unit}
use Rattle.units.specs.declared.block.Block.{Block}
use Rattle.units.proofs.Labels.{get_view}
use Rattle.units.proofs.SpanLists.{means}
use Rattle.units.proofs.SpanMaps.{told_by, set_joined, whole_same}
use Rattle.units.proofs.unit_map.UnitMap.set_all.Goals as goal

pub returns-clause-ok : goal.returns-clause-ok
returns-clause-ok g c labels gives u =
    let old = c.self.inside.spans in
    told_by c.join_along.new.spans c.join_along.ensures.parted c.join_along.ensures.ordered (set_to labels c.args.blocks.now (labels_in old))
    (c.join_along.ensures.means (set_to labels c.args.blocks.now (labels_in old)) (c.in_ok-set_each.ensures.means labels gives (labels_in old) (means old c.self.invariant.ordered c.self.invariant.parted))) u
    ∙ ap (option_map_or labels (find (λ (b : Block). has_unit b.raw u) c.args.blocks.now)) (sym (get_view (intervals_of old.entries) c.args.self.now c.self.view_is u))

pub invariant_of-self : goal.invariant_of-self
invariant_of-self g c = whole_same c.set_each.new.spans c.self.inside.spans c.in_err-set_each.ensures.err c.self.invariant

pub invariant_of-self-2 : goal.invariant_of-self-2
invariant_of-self-2 g c = record {
  ordered = c.join_along.ensures.ordered;
  parted = c.join_along.ensures.parted;
  joined = set_joined c.args.blocks.now (tree.get unit_cmp c.self.inside.spans) (tree.get unit_cmp c.set_each.new.spans) (tree.get unit_cmp c.join_along.new.spans) c.self.invariant.joined c.in_ok-set_each.ensures.set c.join_along.ensures.seams;
}
