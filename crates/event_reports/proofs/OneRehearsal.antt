-- An input is one rehearsal.
use Rattle.std.proofs.Common.{◌≡◌, ℕ, List, [], ◌∷◌, refl, sym, subst, ◌∙◌}
use Rattle.protocol.specs.declared.event.WorldEvent.{WorldEvent}
use Rattle.scheme.specs.declared.registries.Scheme.{Scheme}
use Rattle.scheme.specs.Text.{IsSchemeText}
use Rattle.scheme.proofs.OneAnswer.{only_scheme}
use Rattle.input_lines.proofs.OneEvent.{one_event}
use Rattle.input_lines.specs.EventLines.{IsEventLine}
use Rattle.input_lines.specs.Lines.{room_after}
use Rattle.streams.specs.Inputs.{longest_input}
use Rattle.event_reports.specs.Rehearsal.{AreEvents, IsRehearsal}
use Rattle.input_lines.proofs.FirstLines.{line_once}
use Rattle.event_reports.proofs.NoFault.{line_there}

one_scheme : (bytes : List ℕ) (s t : Scheme) → IsSchemeText bytes s → IsSchemeText bytes t → s ≡ t
one_scheme bytes s t is text = sym (only_scheme bytes is.writes.value s t is.writes.reads (is.listed, is.writes.written, is.sorted) text)

same_events : (xs ys : List WorldEvent) (bytes : List ℕ) (room : ℕ) → AreEvents bytes room xs → AreEvents bytes room ys → xs ≡ ys
same_events [] [] bytes room none are = refl
same_events [] (y ∷ ys) bytes room none are = absurd (line_there bytes are.0 are.1 are.2.begins none)
same_events (x ∷ xs) [] bytes room are none = absurd (line_there bytes are.0 are.1 are.2.begins none)
same_events (x ∷ xs) (y ∷ ys) bytes room p q =
    let same = line_once bytes p.0 p.1 q.0 q.1 p.2.begins q.2.begins in
    let here : x ≡ y = one_event q.0 x y (subst (λ line. IsEventLine line x) same.0 p.3) q.3 in
    let left : AreEvents q.1 (room_after room q.0) xs = subst (λ rest. AreEvents rest (room_after room q.0) xs) same.1 (subst (λ line. AreEvents p.1 (room_after room line) xs) same.0 p.4) in
    let rest : xs ≡ ys = same_events xs ys q.1 (room_after room q.0) left q.4 in
    λ i. here i ∷ rest i

pub one_rehearsal : (input : List ℕ) (s t : Scheme) (xs ys : List WorldEvent) → IsRehearsal input s xs → IsRehearsal input t ys → (s ≡ t) × (xs ≡ ys)
one_rehearsal input s t xs ys p q =
    let same = line_once input p.first p.lines q.first q.lines p.begins.begins q.begins.begins in
    let left : AreEvents q.lines (room_after longest_input q.first) xs =
    subst (λ rest. AreEvents rest (room_after longest_input q.first) xs) same.1 (subst (λ line. AreEvents p.lines (room_after longest_input line) xs) same.0 p.events_are) in
    (one_scheme q.first s t (subst (λ line. IsSchemeText line s) same.0 p.scheme_is) q.scheme_is, same_events xs ys q.lines (room_after longest_input q.first) left q.events_are)
