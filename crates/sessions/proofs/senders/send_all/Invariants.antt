use Rattle.sessions.specs.Sending.{IsReceivedBy}
use Rattle.sessions.specs.Threads.{AreOfThread}
use Rattle.sessions.proofs.senders.send_all.Given as goal

abbrev pub invariant-loop : goal.invariant-loop
invariant-loop g l = AreOfThread g.D.SharedNode.is_to_send (IsReceivedBy (g.N.Network.leads l.fn.network) g.N.Reader.Read.remaining g.N.Writer.Write.contents) (g.N.Clock.tells l.fn.network) l.seat
