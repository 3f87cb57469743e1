-- A message that a desk took, whose answer may wait for a commit.
use Rattle.std.specs.Prelude.{◌≡◌, ℕ, true, List, None}
use Rattle.protocol.specs.Moment.{Moment}
use Rattle.wire.specs.declared.input.Input.TheVariants as inputs
use Rattle.wire.specs.declared.message.Message.{Message}
use Rattle.desk.specs.Desks.{IsTakeOf}
use Rattle.node_state.specs.Telling.{kept}
use Rattle.node_state.specs.Views.{SeatView}
use Rattle.node_state.specs.declared.notes.Asked.TheVariants.{Take}
use Rattle.node_state.specs.declared.notes.Note.{Note}
use Rattle.replies.specs.Answers.{Gives, is_without_journal}
use Rattle.replies.specs.declared.pending.Begun.{Begun}
use Rattle.replies.specs.declared.pending.Begun.TheVariants.{Answered, Pending}

abbrev pub line_of : Begun → List ℕ
line_of (Answered answer) = answer.line
line_of (Pending pending) = pending.line

-- the result isn't that of a journal, and the reply gives it at once; or the answer to it waits
abbrev pub Becomes : Note → Begun → Type 0
Becomes note (Answered answer) = (is_without_journal note.told ≡ true) × (answer.receipt ≡ None) × Gives note.told answer.reply
Becomes note (Pending pending) = pending.note ≡ note

-- the desk took the message once, with that seat and at a moment that the clock gave, and this is the outcome
pub record Begins (tells : Moment → Type 0) (old new : SeatView) (message : Message) (begun : Begun) : Type 0 where
  pub moment : Moment
  pub time : tells moment
  pub note : Note
  pub asked : note.asked ≡ Take (inputs.Received message moment)
  pub taken : IsTakeOf (inputs.Received message moment) note
  pub seat : new ≡ kept old note
  pub becomes : Becomes note begun
