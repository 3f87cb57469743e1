use Rattle.std.proofs.Common.{◌≡◌, ◌⊎◌, true, false, true≢false, Some, Option, inl, inr, rules, sym, ap, ◌∙◌}
use Rattle.std.specs.BTreeMap as tree
use Rattle.std.specs.Option.{option_and_then, option_map}
use Rattle.units.specs.Keys.{unit_cmp}
use Rattle.units.specs.Spans.{intervals_of, labels_in}
use Rattle.units.specs.Unit.{covers}
use Rattle.units.specs.declared.block.Unit.{Unit as Serial}
use Rattle.units.specs.declared.unit_map.Span.{Span}
use Rattle.units.proofs.Labels.{get_view}
use Rattle.units.proofs.SpanLists.{means}
use Rattle.units.proofs.SpanMaps.{told_by, all_respanned, respanned_mean, mapped_labels, relabel_seams, has_last, last_of}
use Rattle.units.proofs.unit_map.UnitMap.relabel_in.Goals as goal

pub invariant_of-self : goal.invariant_of-self
invariant_of-self g c =
    let old = c.self.inside.spans in
    let kept : (k : Serial) (s : Span g.row.M.Denot) → tree.get unit_cmp old k ≡ Some s → covers c.args.blocks.now (last_of k s) ≡ false → tree.get unit_cmp c.change_in.new.spans k ≡ Some s = λ k s e out.
    let label = (means old c.self.invariant.ordered c.self.invariant.parted).gives k (last_of k s) s e (has_last k s (c.self.invariant.parted.ranges k s e)) in
    let only : (r : g.row.M.Denot) → goal.F-post g c.args.change s.label r → r ≡ s.label = λ r h.
    elim (c.requires.only (last_of k s) s.label r (get_view (intervals_of old.entries) c.args.self.now c.self.view_is (last_of k s) ∙ label) h) [
      | inl same ↦ same
      | inr covered ↦ absurd (true≢false (sym covered ∙ out))
    ] in
    c.change_in.ensures.same k s e (λ r h. search (rules, only)) in
    record {
      ordered = c.join_along.ensures.ordered;
      parted = c.join_along.ensures.parted;
      joined = λ u seam.
          let two = c.join_along.ensures.seams u seam in
          c.self.invariant.joined u (relabel_seams c.args.blocks.now (tree.get unit_cmp old) (tree.get unit_cmp c.change_in.new.spans) c.change_in.ensures.reshaped c.change_in.ensures.outside kept u two.0 two.1);
    }

pub returns : goal.returns
returns g c after gives again u =
    let old = c.self.inside.spans in
    let middle = c.change_in.new.spans in
    let becomes : g.row.M.Denot → Option g.row.M.Denot = λ m. Some (after m) in
    let stays : (v : Serial) (x : g.row.M.Denot) → labels_in old v ≡ Some x → (becomes x ≡ Some x) ⊎ (covers c.args.blocks.now v ≡ true) = λ v x e.
    elim (c.requires.same v x (get_view (intervals_of old.entries) c.args.self.now c.self.view_is v ∙ e)) [
      | inl h ↦ inl (ap Some (sym (gives x x h)))
      | inr covered ↦ inr covered
    ] in
    told_by c.join_along.new.spans c.join_along.ensures.parted c.join_along.ensures.ordered (λ v. option_and_then becomes (labels_in old v))
    (c.join_along.ensures.means (λ v. option_and_then becomes (labels_in old v))
    (respanned_mean becomes (tree.get unit_cmp old) (tree.get unit_cmp middle)
    (all_respanned becomes c.args.blocks.now old middle c.self.invariant.parted c.self.invariant.ordered (c.change_in.ensures.changed becomes (λ m r h. search (rules, gives)) (λ m. ap Some (again m))) stays)
    (labels_in old) (means old c.self.invariant.ordered c.self.invariant.parted))) u
    ∙ mapped_labels after (labels_in old u)
    ∙ ap (option_map after) (sym (get_view (intervals_of old.entries) c.args.self.now c.self.view_is u))
