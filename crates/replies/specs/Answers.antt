-- The replies to lines, and the results of a desk behind them.
use Rattle.std.specs.Prelude.{◌≡◌, ◌⊎◌, ℕ, Bool, true, false, max, List, [], ◌∷◌, ◌++◌, map, Option, Some, None, Result, Ok, Err}
use Rattle.units.specs.RefusalCodes.{not_a_message, node_stopped, out_of_memory}
use Rattle.units.specs.declared.memory.NoMemory.{NoMemory}
use Rattle.units.specs.declared.refusal.Refusal.{Refusal}
use Rattle.protocol.specs.Moment.{Moment}
use Rattle.wire.specs.Messages.{IsLine}
use Rattle.wire.specs.declared.input.Input.TheVariants as inputs
use Rattle.wire.specs.declared.message.Message.{Message}
use Rattle.wire.specs.declared.reply.Reply.{Reply}
use Rattle.wire.specs.declared.reply.Reply.TheVariants.{Received, Refused}
use Rattle.desk.specs.Desks.{IsTakeOf}
use Rattle.node_state.specs.Telling.{is_unjudged, kept}
use Rattle.node_state.specs.Views.{SeatView}
use Rattle.node_state.specs.declared.notes.Asked.TheVariants.{Take}
use Rattle.node_state.specs.declared.notes.Note.{Note}
use Rattle.node_state.specs.declared.notes.Told.{Told}
use Rattle.node_state.specs.declared.notes.Told.TheVariants as told
use Rattle.exchanges.specs.Given.{Given}
use Rattle.replies.specs.Lines.{IsNoLine, IsUnread}

-- a line, its reply, and the result that its receipt confirms, if there is one
pub record AnswerView : Type 0 where
  pub line : List ℕ
  pub reply : Reply
  pub receipt : Option Note

-- ---- replies

-- the reply refuses by that code
abbrev pub IsRefusedBy : ℕ → Reply → Type 0
IsRefusedBy code Received = ⊥
IsRefusedBy code (Refused given) = given.number ≡ code

-- the result gives the reply: if the message was recorded, or is a repeat, or late, it was received
abbrev pub Gives : Told → Reply → Type 0
Gives (told.Step stepped) reply = reply ≡ Received
Gives (told.Status status) reply = ⊥
Gives (told.Refused refusal) reply = IsRefusedBy refusal.code reply

-- the result isn't that of a journal: the node had stopped, or memory ran out
abbrev pub is_without_journal : Told → Bool
is_without_journal (told.Step stepped) = false
is_without_journal (told.Status status) = false
is_without_journal (told.Refused refusal) = is_unjudged refusal.code

-- the reply needs no receipt: the line writes no message, the node had stopped, or memory ran out
abbrev pub IsBare : List ℕ → Reply → Type 0
IsBare line reply = (IsRefusedBy not_a_message reply × IsNoLine line) ⊎ (IsRefusedBy node_stopped reply ⊎ IsRefusedBy out_of_memory reply)

-- ---- answers

-- the note is of the line's message, which some state took
pub record IsOfLine (line : List ℕ) (note : Note) : Type 0 where
  pub message : Message
  pub moment : Moment
  pub read : IsLine line message
  pub asked : note.asked ≡ Take (inputs.Received message moment)
  pub taken : IsTakeOf (inputs.Received message moment) note

-- a receipt of that note backs the reply to the line
pub record Backs (line : List ℕ) (reply : Reply) (note : Note) : Type 0 where
  pub source : IsOfLine line note
  pub gives : Gives note.told reply

abbrev pub IsAnswer : List ℕ → Reply → Option Note → Type 0
IsAnswer line reply None = IsBare line reply
IsAnswer line reply (Some note) = Backs line reply note

-- the lines that got an answer, with their replies
abbrev pub given_of : List AnswerView → List Given
given_of answers = map (λ (a : AnswerView). record { line = a.line; reply = a.reply }) answers

-- a line and the result for its message, which a journal judged
pub record PendingView : Type 0 where
  pub line : List ℕ
  pub note : Note

-- the state of a pending answer: its note is of the line's message, and a journal judged it; no public contract cites
-- it
abbrev pub IsPending : List ℕ → Note → Type 0
IsPending line note = IsOfLine line note × (is_without_journal note.told ≡ false)

-- the answer has a receipt of that note and the reply that it gives, or the node stopped before there was one
abbrev pub EndsWith : Note → AnswerView → Type 0
EndsWith note answer = ((answer.receipt ≡ Some note) × Gives note.told answer.reply) ⊎ ((answer.receipt ≡ None) × IsRefusedBy node_stopped answer.reply)

-- a clock and a seat, and the answers that were given by them
pub record DeskAnswererView (K : Type 0) : Type 0 where
  pub clock : K
  pub seat : SeatView
  pub answers : List AnswerView

-- ---- one message at a desk

-- the seat after a receipt of that note
abbrev pub confirmed : SeatView → Note → SeatView
confirmed seat note = record seat { confirmed = max seat.confirmed note.length }

-- the result for a message, and the reply and the receipt that followed
pub record EndsBy (old new : SeatView) (note : Note) (answer : AnswerView) : Type 0 where
  -- if it isn't judged by a journal, the reply gives it at once
  pub at_once : is_without_journal note.told ≡ true → (new ≡ kept old note) × (answer.receipt ≡ None) × Gives note.told answer.reply
  -- otherwise the reply gives it with a receipt of it, or the node stopped before there was one
  pub later :
      is_without_journal note.told ≡ false
      → ((new ≡ confirmed (kept old note) note) × (answer.receipt ≡ Some note) × Gives note.told answer.reply)
      ⊎ ((new ≡ kept old note) × (answer.receipt ≡ None) × IsRefusedBy node_stopped answer.reply)

-- the desk took the message once, with that seat and at a moment that the clock gave, and this is the answer
pub record Asks (tells : Moment → Type 0) (old new : SeatView) (message : Message) (answer : AnswerView) : Type 0 where
  pub moment : Moment
  pub time : tells moment
  pub note : Note
  pub asked : note.asked ≡ Take (inputs.Received message moment)
  pub taken : IsTakeOf (inputs.Received message moment) note
  pub ends : EndsBy old new note answer

-- ---- one line at a desk

-- the line isn't read, and is refused for this: the desk takes nothing
pub record Declines (old new : SeatView) (line : List ℕ) (answer : AnswerView) : Type 0 where
  pub refusal : Refusal
  pub unread : IsUnread line refusal
  pub seat : new ≡ old
  pub receipt : answer.receipt ≡ None
  pub reply : IsRefusedBy refusal.code answer.reply

-- the desk took once the message that the line writes, and this is the answer; or the line isn't read
abbrev pub Replies : (Moment → Type 0) → SeatView → SeatView → List ℕ → AnswerView → Type 0
Replies tells old new line answer = Declines old new line answer ⊎ ((message : Message) × IsLine line message × Asks tells old new message answer)

-- the answer to one more line is added, or memory ran out and nothing changed
abbrev pub RepliesOnce : {K : Type 0} → (K → Moment → Type 0) → DeskAnswererView K → DeskAnswererView K → List ℕ → Result Reply NoMemory → Type 0
RepliesOnce tells old new line (Ok reply) =
    (a : AnswerView) × (new.answers ≡ old.answers ++ a ∷ []) × (new.clock ≡ old.clock) × (a.line ≡ line) × (a.reply ≡ reply) × Replies (tells old.clock) old.seat new.seat line a
RepliesOnce tells old new line (Err e) = new ≡ old
