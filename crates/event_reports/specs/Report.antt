-- The report of a list of events.
use Rattle.std.specs.Prelude.{◌≡◌, ℕ, ◌+◌, List, [], ◌∷◌, ◌++◌}
use Rattle.scheme.specs.declared.registries.Scheme.{Scheme}
use Rattle.protocol.specs.World.{opening, outcomes}
use Rattle.protocol.specs.declared.event.Outcome.{Outcome}
use Rattle.protocol.specs.declared.event.WorldEvent.{WorldEvent}
use Rattle.report.specs.ReportLines.{outcome_line}
use Rattle.report.specs.Table.{IsSafeTable}
use Rattle.report.specs.declared.form.Form.TheVariants.{Lines}

-- a line for each outcome, numbered from n on
abbrev pub outcome_lines : ℕ → List Outcome → List ℕ
outcome_lines n [] = []
outcome_lines n (o ∷ os) = outcome_line n o ++ outcome_lines (n + 1) os

-- the text is the report of the events under the scheme: their outcomes, then the table of the world that they lead to
pub record IsReport (scheme : Scheme) (events : List WorldEvent) (text : List ℕ) : Type 0 where
  pub table : List ℕ
  pub is_table : IsSafeTable Lines scheme events table
  pub spelled : text ≡ outcome_lines 1 (outcomes (opening scheme) events) ++ table
