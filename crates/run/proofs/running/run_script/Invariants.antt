use Rattle.desk.specs.Keeping.{IsToSend}
use Rattle.sessions.specs.Sending.{IsReceivedBy}
use Rattle.sessions.specs.Threads.{IsOfThread}
use Rattle.run.specs.Runs.{IsLoadedAmong}
use Rattle.run.proofs.running.run_script.Given as goal

abbrev pub ghosts-run_opened-K-Opening : goal.ghosts-run_opened-K-Opening
ghosts-run_opened-K-Opening g a = record { opened = IsLoadedAmong g.N.Store.NodeStore a.script.now.scheme.now a.loaded.items }

-- the input is one that a thread of the run takes
abbrev pub ghosts-run_opened-K-Taking : goal.ghosts-run_opened-K-Taking
ghosts-run_opened-K-Taking g a = record {
  takes =
      IsOfThread (IsToSend g.N.Store.NodeStore (IsLoadedAmong g.N.Store.NodeStore a.script.now.scheme.now a.loaded.items)) (IsReceivedBy (g.N.Network.leads a.network.now) g.N.Reader.Read.remaining g.N.Writer.Write.contents) (g.N.Clock.tells a.network.now);
}
