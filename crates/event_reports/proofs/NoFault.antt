-- An input without a fault has none: the two definitions exclude each other.
use Rattle.std.proofs.Common.{◌≡◌, ℕ, zero, suc, ◌+◌, ◌<◌, List, [], ◌∷◌, length, inl, inr, sym, ap, ◌∙◌, subst, arith, length-append}
use Rattle.units.specs.Text.{IsFreeOf}
use Rattle.protocol.specs.declared.event.WorldEvent.{WorldEvent}
use Rattle.scheme.specs.declared.registries.Scheme.{Scheme}
use Rattle.scheme.specs.Text.{IsSchemeText}
use Rattle.scheme.proofs.OneAnswer.{no_fault as no_scheme_fault}
use Rattle.scheme.specs.declared.members.SchemeFault.TheVariants as scheme_fault
use Rattle.command_faults.specs.declared.fault.Cause.{Cause}
use Rattle.command_faults.specs.declared.fault.Cause.TheVariants.{NotJson, Shape, TooMany, TooFew, CodeTwice, AccountTwice, UnknownAccount, AllotmentOverlap, Order, Truncated, TooLong}
use Rattle.input_lines.specs.EventLines.{IsEventLine}
use Rattle.input_lines.proofs.FirstLines.{line_once, line_ends, not_too_long}
use Rattle.input_lines.specs.Lines.{Begins, IsLine, IsLineFault, room_after}
use Rattle.streams.specs.Inputs.{longest_input}
use Rattle.event_reports.specs.Rehearsal.{AreEvents, IsRehearsal, IsEventFault, IsInputFault}
use Rattle.command_faults.specs.SchemeFile.{IsSchemeFault}

line_no_fault : (bytes line rest : List ℕ) (room : ℕ) (cause : Cause) → IsLine bytes room line rest → IsLineFault bytes room cause → ⊥
line_no_fault bytes line rest room NotJson is f = f
line_no_fault bytes line rest room Shape is f = f
line_no_fault bytes line rest room TooMany is f = f
line_no_fault bytes line rest room TooFew is f = f
line_no_fault bytes line rest room CodeTwice is f = f
line_no_fault bytes line rest room AccountTwice is f = f
line_no_fault bytes line rest room UnknownAccount is f = f
line_no_fault bytes line rest room AllotmentOverlap is f = f
line_no_fault bytes line rest room Order is f = f
line_no_fault bytes line rest room Truncated is f = line_ends bytes line rest is.begins f.free
line_no_fault bytes line rest room TooLong is f = not_too_long bytes line rest room is f

pub line_there : (bytes line rest : List ℕ) → Begins bytes line rest → bytes ≡ [] → ⊥
line_there bytes line rest p none =
    let long : length bytes ≡ length line + suc (length rest) = ap length p.spelled ∙ length-append line (10 ∷ rest) in
    let nought : length bytes ≡ 0 = ap length none in
    omega arith

events_no_fault : (events : List WorldEvent) (bytes : List ℕ) (room good : ℕ) (cause : Cause) → AreEvents bytes room events → IsEventFault bytes room good cause → ⊥
events_no_fault [] bytes room zero cause none f = let nought : length bytes ≡ 0 = ap length none in let some : 0 < length bytes = f.0 in omega arith
events_no_fault [] bytes room (suc good) cause none f = line_there bytes f.0 f.1 f.3.begins none
events_no_fault (e ∷ es) bytes room zero cause are f =
    elim f.1 [
      | inl fault ↦ line_no_fault bytes are.0 are.1 room cause are.2 fault
      | inr lacking ↦ lacking.none e (subst (λ line. IsEventLine line e) (line_once bytes are.0 are.1 lacking.line lacking.rest are.2.begins lacking.begins.begins).0 are.3)
    ]
events_no_fault (e ∷ es) bytes room (suc good) cause are f =
    let same = line_once bytes are.0 are.1 f.0 f.1 are.2.begins f.3.begins in
    let left : AreEvents f.1 (room_after room f.0) es =
    subst (λ rest. AreEvents rest (room_after room f.0) es) same.1 (subst (λ line. AreEvents are.1 (room_after room line) es) same.0 are.4) in
    events_no_fault es f.1 (room_after room f.0) good cause left f.5

scheme_no_fault : (line : List ℕ) (s : Scheme) (cause : Cause) → IsSchemeText line s → IsSchemeFault line cause → ⊥
scheme_no_fault line s NotJson is f = let no = no_scheme_fault line s scheme_fault.NotJson is f in cc (no)
scheme_no_fault line s Shape is f = let no = no_scheme_fault line s scheme_fault.Shape is f in cc (no)
scheme_no_fault line s TooMany is f = let no = no_scheme_fault line s scheme_fault.TooMany is f in cc (no)
scheme_no_fault line s TooFew is f = let no = no_scheme_fault line s scheme_fault.TooFew is f in cc (no)
scheme_no_fault line s CodeTwice is f = let no = no_scheme_fault line s scheme_fault.CodeTwice is f in cc (no)
scheme_no_fault line s AccountTwice is f = let no = no_scheme_fault line s scheme_fault.AccountTwice is f in cc (no)
scheme_no_fault line s UnknownAccount is f = let no = no_scheme_fault line s scheme_fault.UnknownAccount is f in cc (no)
scheme_no_fault line s AllotmentOverlap is f = let no = no_scheme_fault line s scheme_fault.AllotmentOverlap is f in cc (no)
scheme_no_fault line s Order is f = f
scheme_no_fault line s Truncated is f = f
scheme_no_fault line s TooLong is f = f

-- an input for which a rehearsal returns Ok has no fault
pub no_fault : (input : List ℕ) (scheme : Scheme) (events : List WorldEvent) (line : ℕ) (cause : Cause) → IsRehearsal input scheme events → IsInputFault input line cause → ⊥
no_fault input scheme events line cause is (inl f) =
    elim f.fault [
      | inl fault ↦ line_no_fault input is.first is.lines longest_input cause is.begins fault
      | inr g ↦ scheme_no_fault g.0 scheme cause (subst (λ l. IsSchemeText l scheme) (line_once input is.first is.lines g.0 g.1 is.begins.begins g.2.begins).0 is.scheme_is) g.3
    ]
no_fault input scheme events line cause is (inr f) =
    let same = line_once input is.first is.lines f.first f.lines is.begins.begins f.begins.begins in
    let left : AreEvents f.lines (room_after longest_input f.first) events =
    subst (λ rest. AreEvents rest (room_after longest_input f.first) events) same.1
    (subst (λ l. AreEvents is.lines (room_after longest_input l) events) same.0 is.events_are) in
    events_no_fault events f.lines (room_after longest_input f.first) f.good cause left f.fault
