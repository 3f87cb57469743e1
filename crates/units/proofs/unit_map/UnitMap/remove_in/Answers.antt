use Rattle.std.proofs.Common.{◌≡◌, ◌⊎◌, true, not, Some, None, Option, cond, inl, inr, rules, sym, ap, ◌∙◌}
use Rattle.std.specs.BTreeMap as tree
use Rattle.std.specs.Option.{option_and_then}
use Rattle.units.specs.Intervals.{labels_that}
use Rattle.units.specs.Keys.{unit_cmp}
use Rattle.units.specs.Spans.{intervals_of, labels_in}
use Rattle.units.specs.Unit.{covers}
use Rattle.units.specs.declared.block.Unit.{Unit as Serial}
use Rattle.units.proofs.Labels.{get_view}
use Rattle.units.proofs.SpanLists.{means}
use Rattle.units.proofs.SpanMaps.{told_by, all_respanned, respanned_mean, seam_fewer, removed_labels, removed_twice}
use Rattle.units.proofs.unit_map.UnitMap.remove_in.Goals as goal

pub invariant_of-self : goal.invariant_of-self
invariant_of-self g c = record {
  ordered = c.change_in.ensures.ordered;
  parted = c.change_in.ensures.parted;
  joined = λ u seam. c.self.invariant.joined u (seam_fewer (tree.get unit_cmp c.self.inside.spans) (tree.get unit_cmp c.change_in.new.spans) (c.change_in.ensures.fewer (λ m r h. search rules)) u seam);
}

pub returns : goal.returns
returns g c passes gives u =
    let old = c.self.inside.spans in
    let new = c.change_in.new.spans in
    let after : g.row.M.Denot → Option g.row.M.Denot = λ m. cond (passes m) None (Some m) in
    let stays : (v : Serial) (x : g.row.M.Denot) → labels_in old v ≡ Some x → (after x ≡ Some x) ⊎ (covers c.args.blocks.now v ≡ true) = λ v x e.
    elim (c.requires.only v x (get_view (intervals_of old.entries) c.args.self.now c.self.view_is v ∙ e)) [
      | inl h ↦ inl (ap (λ t. cond t None (Some x)) (sym (gives x _ h)))
      | inr covered ↦ inr covered
    ] in
    told_by new c.change_in.ensures.parted c.change_in.ensures.ordered (λ v. option_and_then after (labels_in old v))
    (respanned_mean after (tree.get unit_cmp old) (tree.get unit_cmp new)
    (all_respanned after c.args.blocks.now old new c.self.invariant.parted c.self.invariant.ordered (c.change_in.ensures.changed after (λ m r h. search (rules, gives)) (removed_twice passes)) stays)
    (labels_in old) (means old c.self.invariant.ordered c.self.invariant.parted)) u
    ∙ removed_labels passes (labels_in old u)
    ∙ ap (labels_that (λ m. not (passes m))) (sym (get_view (intervals_of old.entries) c.args.self.now c.self.view_is u))
