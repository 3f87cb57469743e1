use Rattle.desk.specs.Keeping.{IsToSend}
use Rattle.sessions.specs.Sending.{IsReceivedBy}
use Rattle.sessions.proofs.Taking.{taken_so}
use Rattle.run.proofs.running.run_opened.Goals as goal

pub write_run-requires-clause-taken : goal.write_run-requires-clause-taken
write_run-requires-clause-taken g c =
    taken_so (IsToSend g.N.Store.NodeStore g.K.Opening.opened) (IsReceivedBy (g.N.Network.leads c.args.network.now) g.N.Reader.Read.remaining g.N.Writer.Write.contents) (g.N.Clock.tells c.args.network.now) g.K.Taking.takes c.requires.takes c.in_ok-run.run'.nodes.threads.items c.in_ok-run.ensures.taken
