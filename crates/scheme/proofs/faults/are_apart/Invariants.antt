use Rattle.std.specs.List.{AllAdjacentBelow}
use Rattle.scheme.proofs.BlocksInOrder.{EndsBefore}
use Rattle.scheme.proofs.faults.are_apart.Given as goal

abbrev pub invariant-loop-i : goal.invariant-loop-i
invariant-loop-i l = AllAdjacentBelow EndsBefore l.blocks l.i
