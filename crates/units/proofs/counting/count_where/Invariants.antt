use Rattle.std.proofs.Common.{◌≡◌, Bool, ◌≤◌, ◌+◌}
use Rattle.std.specs.List.{sum_by}
use Rattle.units.specs.Intervals.{size, AreKept}
use Rattle.units.specs.Spans.{intervals_of}
use Rattle.units.proofs.CountingUnits.{weight}
use Rattle.units.proofs.counting.count_where.Given as goal

-- what was counted and what is left are all units
abbrev pub invariant-loop-unit : goal.invariant-loop-unit
invariant-loop-unit g l = record {
  fits : l.count + sum_by size (intervals_of l.unit-iterator) ≤ sum_by size (intervals_of l.spans.entries);
  counted : (passes : _ → Bool) → ((m : _) (r : Bool) → goal.F-post g l.test m r → r ≡ passes m) → l.count + sum_by (weight passes) (intervals_of l.unit-iterator) ≡ sum_by (weight passes) (intervals_of l.spans.entries);
  kept : AreKept (intervals_of l.unit-iterator);
}
