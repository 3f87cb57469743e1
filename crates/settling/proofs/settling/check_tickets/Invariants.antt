use Rattle.std.specs.List.{AllWithin}
use Rattle.settling.specs.Covering.{Fits}
use Rattle.settling.proofs.settling.check_tickets.Given as goal

abbrev pub invariant-loop-ticket : goal.invariant-loop-ticket
invariant-loop-ticket g l = AllWithin (Fits l.state) l.tickets 0 l.ticket-index
