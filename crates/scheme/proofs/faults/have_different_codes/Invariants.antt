use Rattle.std.specs.List.{AllAdjacentBelow}
use Rattle.scheme.proofs.Told.{CodeBefore}
use Rattle.scheme.proofs.faults.have_different_codes.Given as goal

abbrev pub invariant-loop-i : goal.invariant-loop-i
invariant-loop-i l = AllAdjacentBelow CodeBefore l.members l.i
