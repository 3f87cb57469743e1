-- The outcome of an input that a core took.
use Rattle.protocol.specs.declared.event.Outcome.{Outcome}
use Rattle.protocol.specs.declared.event.Outcome.TheVariants as outcome
use Rattle.protocol.specs.declared.node_core.Stepped.{Stepped}
use Rattle.protocol.specs.declared.node_core.Stepped.TheVariants as stepped

-- the outcome of an input that isn't refused
abbrev pub outcome_of : Stepped → Outcome
outcome_of (stepped.Recorded place) = outcome.Recorded place
outcome_of stepped.Repeat = outcome.Repeat
outcome_of stepped.Late = outcome.Late
