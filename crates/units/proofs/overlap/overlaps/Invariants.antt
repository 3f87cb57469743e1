use Rattle.std.proofs.Common.{length}
use Rattle.units.specs.Apart.{AllApart}
use Rattle.units.proofs.overlap.overlaps.Given as goal

-- the blocks are apart where those that are left are
abbrev pub invariant-loop-block : goal.invariant-loop-block
invariant-loop-block l = record {
  to : AllApart l.rest → AllApart l.fn.blocks;
  from : AllApart l.fn.blocks → AllApart l.rest;
}

abbrev pub decreases-loop-block : goal.decreases-loop-block
decreases-loop-block l = length l.rest
