-- A state's result for a message, if a journal judges it, has a reply.
use Rattle.std.proofs.Common.{◌≡◌, ℕ, zero, suc, ◌<◌, ◌≤◌, ◌⊎◌, Bool, true, false, List, length, Option, None, Some, Result, Err, refl, sym, ap, subst, ◌∙◌, arith, inl, inr}
use Rattle.std.specs.Prelude.{Contains, slice_index_or}
use Rattle.units.specs.RefusalCodes.{not_a_message, node_stopped, out_of_memory}
use Rattle.units.specs.declared.refusal.Refusal.{Refusal}
use Rattle.units.proofs.Lists.OneValue.{clash}
use Rattle.protocol.specs.Moment.{Moment}
use Rattle.protocol.specs.Status.{Status}
use Rattle.wire.specs.declared.input.Input.TheVariants.{Received}
use Rattle.wire.specs.declared.message.Message.{Message}
use Rattle.wire.specs.declared.reply.Reply.{Reply}
use Rattle.protocol.specs.Cores.{answer, answer_of}
use Rattle.protocol.specs.Deciding.{Verdict, IsRecorded, IsRepeat, IsLate, IsRefused}
use Rattle.protocol.specs.Refusing.{MessagesRefusedBy, message_codes}
use Rattle.protocol.specs.Verdict.{history}
use Rattle.protocol.specs.declared.node_core.Stepped.{Stepped}
use Rattle.node_state.specs.Calls.{Takes}
use Rattle.desk.specs.Desks.{IsTakeOf}
use Rattle.node_state.specs.Expected.{told_of, stopped}
use Rattle.node_state.specs.Telling.{kept}
use Rattle.node_state.specs.Views.{StateView, SeatView}
use Rattle.node_state.specs.declared.notes.Note.{Note}
use Rattle.node_state.specs.declared.notes.Told.{Told}
use Rattle.node_state.specs.declared.notes.Told.TheVariants as told
use Rattle.replies.specs.Answers.{AnswerView, Backs, EndsBy, Gives, IsBare, IsOfLine, IsRefusedBy, confirmed, is_without_journal}
use Rattle.replies.specs.Lines.{IsNoLine, IsUnread}

-- the number is one that a reply has
abbrev pub IsReplyCode : ℕ → Type 0
IsReplyCode code = (not_a_message ≤ code) × (code ≤ out_of_memory)

code_at : (k code : ℕ) → slice_index_or message_codes k code ≡ code → k < 7 → IsReplyCode code
code_at zero code e h = (omega arith, omega arith)
code_at (suc zero) code e h = (omega arith, omega arith)
code_at (suc (suc zero)) code e h = (omega arith, omega arith)
code_at (suc (suc (suc zero))) code e h = (omega arith, omega arith)
code_at (suc (suc (suc (suc zero)))) code e h = (omega arith, omega arith)
code_at (suc (suc (suc (suc (suc zero))))) code e h = (omega arith, omega arith)
code_at (suc (suc (suc (suc (suc (suc zero)))))) code e h = (omega arith, omega arith)
code_at (suc (suc (suc (suc (suc (suc (suc k))))))) code e h = absurd (omega arith)

-- the result for a message, if it is judged: that it was acted on, or a refusal by one of its codes
abbrev IsJudged : Told → Type 0
IsJudged (told.Step stepped) = Unit {0}
IsJudged (told.Status status) = ⊥
IsJudged (told.Refused refusal) = IsReplyCode refusal.code

judged_verdict : (messages : (code : ℕ) → Contains message_codes code → IsReplyCode code) (place : ℕ) (v : Verdict) → ((code : ℕ) → v ≡ IsRefused code → Contains message_codes code) → IsJudged (told_of (answer_of place v))
judged_verdict codes place (IsRecorded xs) only = tt
judged_verdict codes place IsRepeat only = tt
judged_verdict codes place IsLate only = tt
judged_verdict codes place (IsRefused code) only = codes code (only code refl)

message_code : (code : ℕ) → Contains message_codes code → IsReplyCode code
message_code code h = code_at h.0 code h.2 h.1

judged_result :
    MessagesRefusedBy message_codes → (m : Message) (moment : Moment) (old new : StateView) (result : Result Stepped Refusal) → Takes old (Received m moment) result new
    → (runs : Bool) → old.runs ≡ runs → is_without_journal (told_of result) ≡ false → IsJudged (told_of result)
judged_result messages m moment old new result takes false e f =
    let stops : result ≡ Err stopped = (takes.0 e).0 in
    absurd (clash _ (ap (λ (r : Result Stepped Refusal). is_without_journal (told_of r)) stops) f)
judged_result messages m moment old new result takes true e f =
    elim ((takes.1 e).0) [
      | inl expected ↦ subst (λ (r : Result Stepped Refusal). IsJudged (told_of r)) (sym expected) (judged_verdict message_code (length old.journal) _ (λ code. messages old.scheme old.node (history old.scheme old.node old.journal) m moment code))
      | inr lacks ↦ absurd (clash _ (ap (λ (r : Result Stepped Refusal). is_without_journal (told_of r)) lacks) f)
    ]

judged : MessagesRefusedBy message_codes → (m : Message) (moment : Moment) (note : Note) → IsTakeOf (Received m moment) note → is_without_journal note.told ≡ false → IsJudged note.told
judged messages m moment note (inl lacks) f = absurd (clash _ (ap is_without_journal lacks) f)
judged messages m moment note (inr h) f =
    let tells = h.2 in
    let same : note.told ≡ told_of tells.0 = tells.1 in
    subst IsJudged (sym same) (judged_result messages m moment h.0 h.1 tells.0 tells.2 h.0.runs refl (ap is_without_journal (sym same) ∙ f))

pub refused_within : MessagesRefusedBy message_codes → (line : List ℕ) (note : Note) (refusal : Refusal) → IsOfLine line note → is_without_journal note.told ≡ false → told.Refused refusal ≡ note.told → IsReplyCode refusal.code
refused_within messages line note refusal source f e = subst IsJudged (sym e) (judged messages source.message source.moment note source.taken f)

pub never_status : MessagesRefusedBy message_codes → (line : List ℕ) (note : Note) (status : Option Status) → IsOfLine line note → is_without_journal note.told ≡ false → told.Status status ≡ note.told → ⊥
never_status messages line note status source f e = subst IsJudged (sym e) (judged messages source.message source.moment note source.taken f)

-- ---- the outcome for a message

pub bare_from : (line copy : List ℕ) (refusal : Refusal) (reply : Reply) → IsUnread line refusal → copy ≡ line → IsRefusedBy refusal.code reply → IsBare copy reply
bare_from line copy refusal reply (inl memory) same by_code = inr (inr (subst (λ (n : ℕ). IsRefusedBy n reply) memory by_code))
bare_from line copy refusal reply (inr h) same by_code = inl (subst (λ (n : ℕ). IsRefusedBy n reply) h.0 by_code, subst IsNoLine (sym same) h.1)

pub backs_from : (line : List ℕ) (reply : Reply) (note receipt : Note) → IsOfLine line note → Gives note.told reply → receipt ≡ note → Backs line reply receipt
backs_from line reply note receipt source gives same = subst (λ (n : Note). Backs line reply n) (sym same) (record { source = source; gives = gives })

pub ended_at_once : (old new : SeatView) (note : Note) (answer : AnswerView) → is_without_journal note.told ≡ true → new ≡ kept old note → answer.receipt ≡ None → Gives note.told answer.reply → EndsBy old new note answer
ended_at_once old new note answer t seat receipt gives = record {
  at_once = λ _. (seat, receipt, gives);
  later = λ f. absurd (clash _ t f);
}

pub ended_later :
    (old between new : SeatView) (note : Note) (answer : AnswerView) → is_without_journal note.told ≡ false → between ≡ kept old note
    → ((new ≡ confirmed between note) × (answer.receipt ≡ Some note) × Gives note.told answer.reply) ⊎ ((new ≡ between) × (answer.receipt ≡ None) × IsRefusedBy node_stopped answer.reply)
    → EndsBy old new note answer
ended_later old between new note answer f seat (inl h) = record {
  at_once = λ t. absurd (clash _ t f);
  later = λ _. inl (h.0 ∙ ap (λ (s : SeatView). confirmed s note) seat, h.1, h.2);
}
ended_later old between new note answer f seat (inr h) = record {
  at_once = λ t. absurd (clash _ t f);
  later = λ _. inr (h.0 ∙ seat, h.1, h.2);
}

-- the same if the result waited
pub ended_of :
    (old between new : SeatView) (note waited : Note) (answer : AnswerView) → waited ≡ note → is_without_journal waited.told ≡ false → between ≡ kept old note
    → ((new ≡ confirmed between waited) × (answer.receipt ≡ Some waited) × Gives waited.told answer.reply) ⊎ ((new ≡ between) × (answer.receipt ≡ None) × IsRefusedBy node_stopped answer.reply)
    → EndsBy old new note answer
ended_of old between new note waited answer same f seat end =
    ended_later old between new note answer (subst (λ (n : Note). is_without_journal n.told ≡ false) same f) seat
    (subst (λ (n : Note). ((new ≡ confirmed between n) × (answer.receipt ≡ Some n) × Gives n.told answer.reply) ⊎ ((new ≡ between) × (answer.receipt ≡ None) × IsRefusedBy node_stopped answer.reply)) same end)
