use Rattle.protocol.specs.World.{opening, run}
use Rattle.safety.proofs.WorldLemmas.NodesWithStation.{opening_placed, run_placed}
use Rattle.safety.proofs.WorldLemmas.ReachedWorlds.{reached_sound}
use Rattle.safety.proofs.WayToRest.TransportToRest.{way_out}
use Rattle.safety.proofs.resolution.there_is_a_way_out.Goals as goal

pub returns : goal.returns
returns c = λ scheme events. way_out (run (opening scheme) events) (reached_sound scheme events) (run_placed (opening scheme) events (opening_placed scheme))
