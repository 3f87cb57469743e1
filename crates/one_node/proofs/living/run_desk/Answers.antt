use Rattle.std.proofs.Common.{subst, All, IfOk}
use Rattle.sessions.specs.Sending.{IsReceivedBy}
use Rattle.sessions.specs.Threads.{AreOfThread}
use Rattle.one_node.proofs.living.run_desk.Goals as goal

pub returns-clause-taken : goal.returns-clause-taken
returns-clause-taken g c =
    subst (λ q. IfOk c.run_threads.result (λ s. All (AreOfThread g.D.SharedNode.is_to_send (IsReceivedBy (g.N.Network.leads q.now) g.N.Reader.Read.remaining g.N.Writer.Write.contents) (g.N.Clock.tells q.now)) s.threads.items))
    c.in_ok-threads.ensures.network c.run_threads.ensures.taken
