use Rattle.std.proofs.Common.{◌≡◌, ℕ, List}
use Rattle.sessions.specs.Pauses.{GoesOnOrEnds}
use Rattle.sessions.specs.Sending.{IsReceivedBy, TriesKeys, after_tries}
use Rattle.sessions.specs.Threads.{AreOfThread}
use Rattle.sessions.proofs.senders.send_pass.Given as goal

abbrev pub invariant-loop : goal.invariant-loop
invariant-loop g l = record {
  taken : AreOfThread g.D.SharedNode.is_to_send (IsReceivedBy (g.N.Network.leads l.fn.network) g.N.Reader.Read.remaining g.N.Writer.Write.contents) (g.N.Clock.tells l.fn.network) l.seat;
  row : GoesOnOrEnds l.fn.back_off.failures l.back_off.failures;
  tried : List ℕ;
  next : l.from ≡ after_tries tried;
  tries : TriesKeys g.D.SharedNode.is_to_send (IsReceivedBy (g.N.Network.leads l.fn.network) g.N.Reader.Read.remaining g.N.Writer.Write.contents) l.fn.peer l.end l.fn.seat l.seat tried;
}
