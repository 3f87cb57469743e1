use Rattle.std.proofs.Common.{◌≡◌}
use Rattle.sessions.proofs.node_threads.NodeThreads.serve_all.Given as goal

abbrev pub invariant-loop : goal.invariant-loop
invariant-loop g l = l.seat.tickets ≡ l.fn.seat.tickets
