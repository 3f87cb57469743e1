use Rattle.std.proofs.Common.{sym, ap, subst, ◌∙◌}
use Rattle.std.specs.BTreeMap as tree
use Rattle.std.specs.List.Sorted.{IsStrictlySortedBy}
use Rattle.std.specs.Map.{keys_of, lookup}
use Rattle.std.specs.Option.{option_or}
use Rattle.std.proofs.lemmas.Map.Keys.{sorted_tail}
use Rattle.std.proofs.lemmas.Map.Lookups.{btree_map_from_get}
use Rattle.units.specs.Keys.{unit_cmp}
use Rattle.units.proofs.SpanMaps.{copied_more}
use Rattle.units.proofs.UnitKeys.{exact_units, units_total}
use Rattle.units.proofs.unit_map.listing.copied.Goals as goal

pub loop-unit-preserved : goal.loop-unit-preserved
loop-unit-preserved g c =
    let sorted = subst (λ es. IsStrictlySortedBy unit_cmp (keys_of es)) c.in-Some.ensures.steps c.loop-unit.invariant.sorted in
    record {
      sorted = sorted_tail unit_cmp c.in-Some.unit.now (keys_of c.next.new.self) sorted;
      all = copied_more (tree.get unit_cmp c.args.spans.now) c.next.new.self c.in-Some.unit.now c.in-Some.span.now (tree.get unit_cmp c.loop-unit.copied) (tree.get unit_cmp c.insert.new.self) sorted c.in_ok-insert.ensures.updates.0
          (λ q. c.loop-unit.invariant.all q ∙ ap (λ es. option_or (lookup (tree.is_at (unit_cmp q)) es) (tree.get unit_cmp c.loop-unit.copied q)) c.in-Some.ensures.steps);
      ordered = c.in_ok-insert.ensures.ordered;
    }

pub returns : goal.returns
returns g c =
    btree_map_from_get units_total c.loop-unit.copied c.args.spans.now c.loop-unit.invariant.ordered c.requires
    (λ q. sym (c.loop-unit.invariant.all q ∙ ap (λ es. option_or (lookup (tree.is_at (unit_cmp q)) es) (tree.get unit_cmp c.loop-unit.copied q)) c.in-None.ensures.steps.0)) exact_units
