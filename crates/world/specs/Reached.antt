-- Worlds that events lead to.
use Rattle.std.specs.Prelude.{◌≡◌, List}
use Rattle.protocol.specs.World.{World, opening, run}
use Rattle.protocol.specs.declared.event.WorldEvent.{WorldEvent}

-- these events lead to the world from the opening world of its scheme; no public contract cites it
pub record IsReached (w : World) : Type 0 where
  pub events : List WorldEvent
  pub lead : w ≡ run (opening w.scheme) events
