use Rattle.std.specs.List.{AllWithin}
use Rattle.settling.specs.Settling.{IsWithin}
use Rattle.settling.proofs.settling.check_confirmed.Given as goal

abbrev pub invariant-loop-seat : goal.invariant-loop-seat
invariant-loop-seat l = AllWithin (IsWithin l.committed) l.seats 0 l.seat-index
