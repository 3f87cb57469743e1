-- The state of a rehearsal. No public contract cites it.
use Rattle.std.specs.Prelude.{◌≡◌, ℕ, List}
use Rattle.protocol.specs.World.{World, opening, outcomes, run}
use Rattle.protocol.specs.declared.event.WorldEvent.{WorldEvent}
use Rattle.scheme.specs.declared.registries.Scheme.{Scheme}
use Rattle.event_reports.specs.Report.{outcome_lines}

-- the world that the events lead to, and the lines of their outcomes
pub record HasRun (scheme : Scheme) (events : List WorldEvent) (w : World) (lines : List ℕ) : Type 0 where
  pub world : w ≡ run (opening scheme) events
  pub spelled : lines ≡ outcome_lines 1 (outcomes (opening scheme) events)
