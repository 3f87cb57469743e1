-- Lines of events, one after another.
use Rattle.std.proofs.Common.{◌≡◌, ℕ, suc, ◌+◌, ◌≤◌, List, [], ◌∷◌, ◌++◌, length, refl, sym, ap, ◌∙◌, append_assoc, arith, length-append}
use Rattle.units.specs.Text.{IsFreeOf}
use Rattle.protocol.specs.Scheme.{Scheme}
use Rattle.protocol.specs.declared.event.WorldEvent.{WorldEvent}
use Rattle.input_lines.specs.EventLines.{IsEventLine}
use Rattle.input_lines.specs.Lines.{AreLines, room_after}
use Rattle.streams.specs.Inputs.{longest_input}
use Rattle.event_reports.specs.Rehearsal.{IsRehearsal}
use Rattle.events.specs.Runs.{AreEventLines, IsRun, IsWithinLimits}

-- one line more
pub line_more : (bytes : List ℕ) (events : List WorldEvent) (line : List ℕ) (event : WorldEvent) → AreEventLines bytes events → IsFreeOf 10 line → IsEventLine line event
    → AreEventLines (bytes ++ (line ++ 10 ∷ [])) (events ++ event ∷ [])
line_more bytes [] line event none free is = (line, [], record { spelled = ap (λ bs. bs ++ (line ++ 10 ∷ [])) none; free = free }, is, refl)
line_more bytes (e ∷ events) line event are free is =
    let first = are.0 in
    let rest = are.1 in (
      first,
      rest ++ (line ++ 10 ∷ []),
      record { spelled = ap (λ bs. bs ++ (line ++ 10 ∷ [])) are.2.spelled ∙ append_assoc first (10 ∷ rest) (line ++ 10 ∷ []); free = are.2.free },
      are.3,
      line_more rest events line event are.4 free is,
    )

lines_within : (text before bytes : List ℕ) (room : ℕ) (events : List WorldEvent) → IsWithinLimits text → text ≡ before ++ bytes → length bytes ≤ room → AreEventLines bytes events → AreLines IsEventLine bytes room events
lines_within text before bytes room [] limits is fits none = none
lines_within text before bytes room (e ∷ events) limits is fits are =
    let line = are.0 in
    let rest = are.1 in
    let begins = are.2 in
    let whole : text ≡ before ++ (line ++ 10 ∷ rest) = is ∙ ap (λ bs. before ++ bs) begins.spelled in
    let long : length bytes ≡ length line + suc (length rest) = ap length begins.spelled ∙ length-append line (10 ∷ rest) in
    let cut : text ≡ (before ++ (line ++ 10 ∷ [])) ++ rest =
    whole ∙ ap (λ bs. before ++ bs) (sym (append_assoc line (10 ∷ []) rest)) ∙ sym (append_assoc before (line ++ 10 ∷ []) rest) in (
      line,
      rest,
      record { begins = begins; short = limits.lines before line rest whole begins.free; within = omega (arith, fits, long) },
      are.3,
      lines_within text (before ++ (line ++ 10 ∷ [])) rest (room_after room line) events limits cut (omega (arith, fits, long)) are.4,
    )

pub rehearsal_of : (text : List ℕ) (scheme : Scheme) (events : List WorldEvent) → IsRun text scheme events → IsWithinLimits text → IsRehearsal text scheme events
rehearsal_of text scheme events run limits =
    let first = run.first in
    let lines = run.lines in
    let spelled = run.begins.spelled in
    let long : length text ≡ length first + suc (length lines) = ap length spelled ∙ length-append first (10 ∷ lines) in
    let whole = limits.whole in
    let cut : text ≡ (first ++ 10 ∷ []) ++ lines = spelled ∙ sym (append_assoc first (10 ∷ []) lines) in
    record {
      first = first;
      lines = lines;
      begins = record { begins = run.begins; short = limits.lines [] first lines spelled run.begins.free; within = omega (arith, whole, long) };
      scheme_is = run.scheme_is;
      events_are = lines_within text (first ++ 10 ∷ []) lines (room_after longest_input first) events limits cut (omega (arith, whole, long)) run.events_are;
    }
