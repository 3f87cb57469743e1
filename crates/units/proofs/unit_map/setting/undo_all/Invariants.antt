use Rattle.std.proofs.Common.{length}
use Rattle.std.specs.BTreeMap as tree
use Rattle.std.specs.BTreeMap.{IsOrdered}
use Rattle.units.specs.Keys.{unit_cmp}
use Rattle.units.specs.SpanSteps.{ArePrepared}
use Rattle.units.proofs.SpanPuts.{Held}
use Rattle.units.proofs.unit_map.setting.undo_all.Given as goal

abbrev pub decreases-loop-newest : goal.decreases-loop-newest
decreases-loop-newest g l = length l.prepared.items

-- the older ones are prepared still
abbrev pub invariant-loop-newest : goal.invariant-loop-newest
invariant-loop-newest g l = record {
  prepared : (before : Held g.row.M.Denot) → ArePrepared l.fn.prepared.items before (tree.get unit_cmp l.fn.spans) → ArePrepared l.prepared.items before (tree.get unit_cmp l.spans);
  ordered : IsOrdered unit_cmp l.spans;
}
