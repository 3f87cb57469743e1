use Rattle.protocol.specs.World.{opening, run}
use Rattle.safety.proofs.JournalWeaves.FurthestCuts.{furthest_cut, one_cut}
use Rattle.safety.proofs.JournalWeaves.StuckWorlds.{stuck_is_furthest}
use Rattle.safety.proofs.weaving.there_is_a_furthest_cut.Goals as goal

pub returns : goal.returns
returns c = record {
  exists = furthest_cut;
  one = one_cut;
  stuck = λ scheme events journals. stuck_is_furthest (run (opening scheme) events) journals;
}
