use Rattle.std.proofs.Common.{◌≡◌, ◌≤◌, ◌<◌, ◌-◌, Bool, true, Some}
use Rattle.std.specs.Option.{option_map}
use Rattle.units.specs.Spans.{labels_in}
use Rattle.units.specs.Unit.{has_unit}
use Rattle.units.specs.declared.block.Unit.{Unit as Serial}
use Rattle.units.proofs.unit_map.reading.all_pass.Given as goal

-- the block's units before the number that comes next pass
abbrev pub invariant-loop-interval : goal.invariant-loop-interval
invariant-loop-interval g l = record {
  from : l.block.raw.first ≤ l.number;
  to : l.number ≤ l.block.raw.last;
  so_far : (passes : g.row.M.Denot → Bool) → ((m : g.row.M.Denot) (r : Bool) → goal.F-post g l.test m r → r ≡ passes m) → (u : Serial) → has_unit l.block.raw u ≡ true → u.number < l.number → option_map passes (labels_in l.spans u) ≡ Some true;
}

abbrev pub decreases-loop-interval : goal.decreases-loop-interval
decreases-loop-interval g l = l.block.raw.last - l.number
