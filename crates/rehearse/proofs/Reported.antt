-- The report of a list of events.
use Rattle.std.proofs.Common.{◌≡◌, ℕ, List, ◌++◌, ap, ◌∙◌}
use Rattle.scheme.specs.declared.registries.Scheme.{Scheme}
use Rattle.protocol.specs.World.{World}
use Rattle.protocol.specs.declared.event.WorldEvent.{WorldEvent}
use Rattle.report.specs.Table.{IsSafeTable}
use Rattle.report.specs.declared.form.Form.TheVariants.{Lines}
use Rattle.rehearse.specs.Rehearsal.{HasRun}
use Rattle.event_reports.specs.Report.{IsReport}

-- the outcomes' lines, and then the table of the world that the events lead to
pub reported : (scheme : Scheme) (events : List WorldEvent) (w : World) (lines text : List ℕ) → HasRun scheme events w lines → (table : List ℕ) × IsSafeTable Lines scheme events table × (text ≡ lines ++ table) → IsReport scheme events text
reported scheme events w lines text ran told = record { table = told.0; is_table = told.1; spelled = told.2 ∙ ap (λ (l : List ℕ). l ++ told.0) ran.spelled }
