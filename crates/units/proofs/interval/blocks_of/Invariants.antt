use Rattle.std.proofs.Common.{◌≡◌, map, take}
use Rattle.units.specs.Canonical.{interval_of}
use Rattle.units.proofs.interval.blocks_of.Given as goal

-- the blocks so far are those of the intervals so far
abbrev pub invariant-loop-interval : goal.invariant-loop-interval
invariant-loop-interval l = map interval_of l.blocks.items ≡ take l.interval-index l.intervals
