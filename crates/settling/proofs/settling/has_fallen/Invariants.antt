use Rattle.std.specs.List.{AllWithin}
use Rattle.settling.specs.Settling.{Stood}
use Rattle.settling.proofs.settling.has_fallen.Given as goal

abbrev pub invariant-loop-seat : goal.invariant-loop-seat
invariant-loop-seat l = AllWithin Stood l.seats 0 l.seat-index
