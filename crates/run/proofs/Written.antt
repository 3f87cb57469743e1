-- The output of a run that fails.
use Rattle.std.proofs.Common.{◌≡◌, ◌<◌, ℕ, List, Option, Some, None, Result, Ok, Err, IfOk, IfErr, OnOk, length, take, inl, inr, refl, sym, subst}
use Rattle.std.specs.Io.KnownBytes.{Appends, Keeps}
use Rattle.protocol.specs.Scheme.{Scheme}
use Rattle.command_faults.specs.declared.fault.OpFault.{OpFault}
use Rattle.command_faults.specs.declared.fault.OpFault.TheVariants.{Input as Line, Read, Write, Store, Stuck, Unsettled, Setup, Undone, NoMemory}
use Rattle.input_lines.specs.declared.script_line.ScriptLine.{ScriptLine}
use Rattle.serving.specs.Answers.{answer_lines}
use Rattle.units.specs.declared.code.Node.{Node}
use Rattle.protocol.specs.Input.{Input}
use Rattle.desk.specs.NodeStore.{Ghosts}
use Rattle.desk.specs.Keeping.{StoredView}
use Rattle.serving.specs.Heard.{AreHeard}
use Rattle.ended_nodes.specs.Ended.{states_of}
use Rattle.ended_nodes.specs.Reported.{IsTableFault}
use Rattle.run.specs.Runs.{FailsToRun, HasAnswered, IsRunReport}
use Rattle.serving.specs.Ends.{HaveEnded, IsLateFault}
use Rattle.serving.specs.declared.answer.ScriptAnswer.{ScriptAnswer}
use Rattle.node_state.specs.Views.{StateView, SeatView}

module _ {S : Type 0} (g : Ghosts S) (opened : Scheme → Node → List Input → ℕ → Type 0) (scheme : Scheme) where
  pub late_fault : (e : OpFault) (ends : List (StoredView S)) (seats : List (List SeatView)) → HaveEnded g opened scheme ends → IsTableFault scheme (states_of ends) seats e → IsLateFault g opened scheme e
  late_fault (Unsettled told) ends seats ended h = inr (record { ends = ends; seats = seats; ended = ended; cause = h })
  late_fault (Stuck n place) ends seats ended h = record { ends = ends; seats = seats; ended = ended; cause = h }
  late_fault NoMemory ends seats ended h = tt
  late_fault (Line line cause) ends seats ended h = absurd h
  late_fault Read ends seats ended h = absurd h
  late_fault (Write count) ends seats ended h = absurd h
  late_fault (Store told fault) ends seats ended h = absurd h
  late_fault (Setup fault) ends seats ended h = absurd h
  late_fault (Undone line) ends seats ended h = absurd h

  module _ (lines : List ScriptLine) (before after : Option (List ℕ)) (answers : List ScriptAnswer) (seats : List SeatView) (heard : AreHeard scheme seats lines answers) (text : List ℕ) (is : text ≡ answer_lines 1 answers) where
    answered : Appends before after text → HasAnswered scheme lines before after
    answered written = record { answers = answers; seats = seats; heard = heard; written = subst (Appends before after) is written }

    pub fails_late : (e : OpFault) → IsLateFault g opened scheme e → Appends before after text → FailsToRun g opened e scheme lines before after
    fails_late (Store told fault) late written = (late, answered written)
    fails_late (Unsettled told) late written = (late, answered written)
    fails_late (Stuck n place) late written = (late, answered written)
    fails_late NoMemory late written = inr (answered written)
    fails_late (Line line cause) late written = absurd late
    fails_late Read late written = absurd late
    fails_late (Setup fault) late written = absurd late
    fails_late (Undone line) late written = absurd late
    fails_late (Write count) late written = absurd late

    pub fails_in_answers : (e : OpFault) → ((count : ℕ) × (e ≡ Write count) × (count < length text) × Appends before after (take count text)) → FailsToRun g opened e scheme lines before after
    fails_in_answers e h =
        subst (λ (x : OpFault). FailsToRun g opened x scheme lines before after) (sym h.1)
        (inl (record {
          answers = answers;
          seats = seats;
          heard = heard;
          fewer = subst (λ (xs : List ℕ). h.0 < length xs) is h.2;
          written = subst (λ (xs : List ℕ). Appends before after (take h.0 xs)) is h.3;
        }))

  pub fails_in_report : (lines : List ScriptLine) (before after : Option (List ℕ)) (ends : List (StoredView S)) (undone : Option ℕ) (text : List ℕ) (e : OpFault) → HaveEnded g opened scheme ends → IsRunReport scheme lines (states_of ends) undone text
      → ((count : ℕ) × (e ≡ Write count) × (count < length text) × Appends before after (take count text)) → FailsToRun g opened e scheme lines before after
  fails_in_report lines before after ends undone text e ended report h =
      subst (λ (x : OpFault). FailsToRun g opened x scheme lines before after) (sym h.1) (inr (record { ends = ends; undone = undone; text = text; ended = ended; report = report; fewer = h.2; written = h.3 }))

-- ---- parts of results

-- a report has that number and that text
pub report_with : (scheme : Scheme) (lines : List ScriptLine) (helds : List StateView) (number undone : Option ℕ) (text written : List ℕ) → undone ≡ number → written ≡ text
    → IsRunReport scheme lines helds number text → IsRunReport scheme lines helds undone written
report_with scheme lines helds number undone text written counted spelled report =
    subst (λ (u : Option ℕ). IsRunReport scheme lines helds u written) (sym counted) (subst (IsRunReport scheme lines helds number) (sym spelled) report)

pub both_ok : {X E : Type 0} {P Q T : X → Type 0} (r : Result X E) → ((x : X) → P x → Q x → T x) → IfOk r P → IfOk r Q → IfOk r T
both_ok (Ok x) f p q = f x p q
both_ok (Err e) f p q = tt
