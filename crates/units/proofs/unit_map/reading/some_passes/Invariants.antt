use Rattle.std.proofs.Common.{◌≡◌, ◌≢◌, ◌≤◌, ◌<◌, Bool, true, Some}
use Rattle.std.specs.Option.{option_map}
use Rattle.units.specs.Spans.{labels_in}
use Rattle.units.specs.Unit.{has_unit}
use Rattle.units.specs.declared.block.Unit.{Unit as Serial}
use Rattle.units.proofs.unit_map.reading.some_passes.Given as goal

-- none of the block's units behind the number that comes next passes
abbrev pub invariant-loop-at : goal.invariant-loop-at
invariant-loop-at g l = record {
  from : l.block.raw.first ≤ l.number;
  to : l.number ≤ l.block.raw.last;
  so_far : (passes : g.row.M.Denot → Bool) → ((m : g.row.M.Denot) (r : Bool) → goal.F-post g l.test m r → r ≡ passes m) → (u : Serial) → has_unit l.block.raw u ≡ true → l.number < u.number → option_map passes (labels_in l.spans u) ≢ Some true;
}

abbrev pub decreases-loop-at : goal.decreases-loop-at
decreases-loop-at g l = l.number
