use Rattle.desk.specs.Keeping.{IsToSend}
use Rattle.sessions.specs.Sending.{IsReceivedBy}
use Rattle.sessions.proofs.Taking.{not_ordered}
use Rattle.run.specs.Runs.{IsLoadedAmong}
use Rattle.run.proofs.Opened.{may_open}
use Rattle.run.proofs.running.run_script.Goals as goal

pub run_opened-requires-clause-nodes : goal.run_opened-requires-clause-nodes
run_opened-requires-clause-nodes g c = λ lifetimes live. c.requires.nodes

pub run_opened-requires-clause-may_open : goal.run_opened-requires-clause-may_open
run_opened-requires-clause-may_open g c = λ lifetimes live. may_open g.N.Store.NodeStore c.args.script.now.scheme.now c.args.loaded.items c.requires.opened

pub run_opened-requires-clause-takes : goal.run_opened-requires-clause-takes
run_opened-requires-clause-takes g c = λ lifetimes live. λ input is. is

pub run_opened-requires-clause-unordered : goal.run_opened-requires-clause-unordered
run_opened-requires-clause-unordered g c = λ lifetimes live.
    not_ordered (IsToSend g.N.Store.NodeStore (IsLoadedAmong g.N.Store.NodeStore c.args.script.now.scheme.now c.args.loaded.items)) (IsReceivedBy (g.N.Network.leads c.args.network.now) g.N.Reader.Read.remaining g.N.Writer.Write.contents)
    (g.N.Clock.tells c.args.network.now)
