use Rattle.std.proofs.Common.{◌≡◌}
use Rattle.std.specs.BTreeMap as tree
use Rattle.std.specs.List.Sorted.{IsStrictlySortedBy}
use Rattle.std.specs.Map.{keys_of, lookup}
use Rattle.std.specs.Option.{option_or}
use Rattle.units.specs.Keys.{unit_cmp}
use Rattle.units.specs.declared.block.Unit.{Unit as Serial}
use Rattle.units.proofs.unit_map.listing.copied.Given as goal

-- what was copied and what is left are all entries
abbrev pub invariant-loop-unit : goal.invariant-loop-unit
invariant-loop-unit g l = record {
  sorted : IsStrictlySortedBy unit_cmp (keys_of l.unit-iterator);
  all : (q : Serial) → tree.get unit_cmp l.spans q ≡ option_or (lookup (tree.is_at (unit_cmp q)) l.unit-iterator) (tree.get unit_cmp l.copied q);
  ordered : tree.IsOrdered unit_cmp l.copied;
}
