-- The world that events lead to, and the lines of their outcomes, with one event more.
use Rattle.std.proofs.Common.{◌≡◌, ℕ, suc, ◌+◌, List, [], ◌∷◌, ◌++◌, length, refl, sym, ap, ◌∙◌, arith}
use Rattle.scheme.specs.declared.registries.Scheme.{Scheme}
use Rattle.protocol.specs.declared.event.Outcome.{Outcome}
use Rattle.protocol.specs.declared.event.WorldEvent.{WorldEvent}
use Rattle.protocol.specs.World.{World, opening, step, run, outcomes}
use Rattle.safety.proofs.WorldLemmas.QuietWorlds.{run_append}
use Rattle.report.specs.ReportLines.{outcome_line}
use Rattle.event_reports.specs.Report.{outcome_lines}
use Rattle.report.proofs.NumberedLines.{lines_more}
use Rattle.rehearse.specs.Rehearsal.{HasRun}

outcomes-snoc : (w : World) (es : List WorldEvent) (e : WorldEvent) → outcomes w (es ++ e ∷ []) ≡ outcomes w es ++ (step (run w es) e).outcome ∷ []
outcomes-snoc w [] e = refl
outcomes-snoc w (x ∷ es) e = ap (λ (l : List Outcome). (step w x).outcome ∷ l) (outcomes-snoc (step w x).world es e)

length-outcomes : (w : World) (es : List WorldEvent) → length (outcomes w es) ≡ length es
length-outcomes w [] = refl
length-outcomes w (e ∷ es) = ap suc (length-outcomes (step w e).world es)

outcome_lines-snoc : (n : ℕ) (os : List Outcome) (o : Outcome) → outcome_lines n (os ++ o ∷ []) ≡ outcome_lines n os ++ outcome_line (n + length os) o
outcome_lines-snoc n os o = lines_more outcome_line outcome_lines (λ k. refl) (λ k x xs. refl) n os o

-- the lines of the outcomes of one more event
lines-snoc : (w : World) (es : List WorldEvent) (e : WorldEvent) → outcome_lines 1 (outcomes w (es ++ e ∷ [])) ≡ outcome_lines 1 (outcomes w es) ++ outcome_line (length es + 1) (step (run w es) e).outcome
lines-snoc w es e =
    let same : 1 + length (outcomes w es) ≡ length es + 1 = omega (arith, length-outcomes w es) in
    ap (outcome_lines 1) (outcomes-snoc w es e)
    ∙ outcome_lines-snoc 1 (outcomes w es) (step (run w es) e).outcome
    ∙ ap (λ (k : ℕ). outcome_lines 1 (outcomes w es) ++ outcome_line k (step (run w es) e).outcome) same

pub run_more : (scheme : Scheme) (events : List WorldEvent) (w new : World) (lines longer : List ℕ) (number : ℕ) (e : WorldEvent) → HasRun scheme events w lines → number ≡ length events + 1
    → new ≡ (step w e).world → longer ≡ lines ++ outcome_line number (step w e).outcome → HasRun scheme (events ++ e ∷ []) new longer
run_more scheme events w new lines longer number e ran count stepped told = record {
  world = stepped ∙ ap (λ (v : World). (step v e).world) ran.world ∙ sym (run_append (opening scheme) events (e ∷ []));
  spelled =
      told
      ∙ ap (λ (l : List ℕ). l ++ outcome_line number (step w e).outcome) ran.spelled
      ∙ ap (λ (v : World). outcome_lines 1 (outcomes (opening scheme) events) ++ outcome_line number (step v e).outcome) ran.world
      ∙ ap (λ (k : ℕ). outcome_lines 1 (outcomes (opening scheme) events) ++ outcome_line k (step (run (opening scheme) events) e).outcome) count
      ∙ sym (lines-snoc (opening scheme) events e);
}
