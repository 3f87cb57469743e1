-- The table of a listed run is one that an audit may write.
use Rattle.std.proofs.Common.{◌≡◌, ◌++◌, ℕ, List, subst}
use Rattle.protocol.specs.Input.{Input}
use Rattle.protocol.specs.Scheme.{Scheme}
use Rattle.protocol.specs.World.{opening, outcomes}
use Rattle.protocol.specs.declared.event.WorldEvent.{WorldEvent}
use Rattle.report.specs.declared.form.Form.TheVariants.{Lines}
use Rattle.report.specs.Table.{IsSafeTable}
use Rattle.event_reports.specs.Rehearsal.{IsRehearsal}
use Rattle.event_reports.specs.Report.{IsReport, outcome_lines}
use Rattle.event_reports.proofs.OneRehearsal.{one_rehearsal}
use Rattle.loading.specs.Runs.{IsAuditTable}
use Rattle.events.specs.Listing.{ListsRun}
use Rattle.events.specs.Runs.{IsWithinLimits}
use Rattle.events.proofs.Lines.{rehearsal_of}

pub table_of_audit : (scheme : Scheme) (journals : List (List Input)) (text : List ℕ) → ListsRun Lines scheme journals text → IsWithinLimits text → (s : Scheme) (events : List WorldEvent) (report : List ℕ)
    → IsRehearsal text s events → IsReport s events report → (outcomes : List ℕ) × (table : List ℕ) × (report ≡ outcomes ++ table) × IsAuditTable Lines scheme journals table
table_of_audit scheme journals text lists limits s events report is reports =
    let same = one_rehearsal text s scheme events lists.events is (rehearsal_of text scheme lists.events lists.is_run limits) in
    let safe : IsSafeTable Lines scheme lists.events reports.table = subst (λ xs. IsSafeTable Lines scheme xs reports.table) same.1 (subst (λ t. IsSafeTable Lines t events reports.table) same.0 reports.is_table) in
    (outcome_lines 1 (outcomes (opening s) events), reports.table, reports.spelled, record { events = lists.events; projects = lists.projects; is_table = safe })
