use Rattle.std.proofs.Common.{◌≡◌}
use Rattle.sessions.proofs.workers.WorkersAnswerer.confirm_all.Given as goal

abbrev pub invariant-loop-answer : goal.invariant-loop-answer
invariant-loop-answer g l = l.seat.tickets ≡ l.fn.seat.tickets
