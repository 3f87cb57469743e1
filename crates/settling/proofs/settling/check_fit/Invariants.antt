use Rattle.std.specs.List.{All, AllWithin}
use Rattle.settling.specs.Covering.{Fits}
use Rattle.settling.proofs.settling.check_fit.Given as goal

abbrev pub invariant-loop-seat : goal.invariant-loop-seat
invariant-loop-seat g l = AllWithin (λ s. All (Fits l.state) s.tickets) l.seats 0 l.seat-index
