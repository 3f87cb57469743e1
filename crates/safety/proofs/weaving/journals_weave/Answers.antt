use Rattle.protocol.specs.World.{opening, run}
use Rattle.safety.proofs.JournalWeaves.EventsFromOrders.{in_turn_reached}
use Rattle.safety.proofs.JournalWeaves.OrdersFromEvents.{ordered, always_next}
use Rattle.safety.proofs.JournalWeaves.StuckWorlds.{stuck_is_final}
use Rattle.safety.proofs.weaving.journals_weave.Goals as goal

pub returns : goal.returns
returns c = record {
  reached = in_turn_reached;
  ordered = ordered;
  never_stuck = always_next;
  stuck = λ scheme events journals. stuck_is_final (run (opening scheme) events) journals;
}
