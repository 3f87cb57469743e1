use Rattle.std.proofs.Common.{subst, sym}
use Rattle.sessions.specs.Sending.{IsReceivedBy}
use Rattle.sessions.specs.Threads.{AreOfThread}
use Rattle.sessions.proofs.Taking.{after_begun}
use Rattle.sessions.proofs.node_threads.NodeThreads.work.Goals as goal

pub loop-preserved : goal.loop-preserved
loop-preserved g c =
    let network = c.args.self.now.network.now in
    let got = IsReceivedBy (g.N.Network.leads network) g.N.Reader.Read.remaining g.N.Writer.Write.contents in
    subst (AreOfThread g.D.SharedNode.is_to_send got (g.N.Clock.tells network)) (sym c.forget_notes.ensures)
    (after_begun g.D.SharedNode.is_to_send got (g.N.Clock.tells network) c.loop.seat c.begin_job-begun.new.seat _ _ c.begin_job-begun.ensures.begins c.loop.invariant)
