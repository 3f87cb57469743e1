-- The results that a script got at the desks, by its seats.
use Rattle.std.specs.Prelude.{◌≡◌, ◌⊎◌, ◌<◌, ◌≤◌, ℕ, true, false, List, Contains, slice_get, Some}
use Rattle.protocol.specs.Scheme.{Scheme}
use Rattle.protocol.specs.Registries.{index_of}
use Rattle.protocol.specs.declared.node_core.Stepped.TheVariants.{Recorded, Repeat, Late}
use Rattle.node_state.specs.Expected.{stopped}
use Rattle.node_state.specs.Telling.{is_unjudged}
use Rattle.node_state.specs.Views.{SeatView}
use Rattle.node_state.specs.declared.notes.Asked.{Asked}
use Rattle.node_state.specs.declared.notes.Asked.TheVariants.{Take, Query}
use Rattle.node_state.specs.declared.notes.Note.{Note}
use Rattle.node_state.specs.declared.notes.Ticket.{Ticket}
use Rattle.node_state.specs.declared.notes.Told.{Told}
use Rattle.node_state.specs.declared.notes.Told.TheVariants.{Step, Status, Refused}
use Rattle.replies.specs.Answers.{confirmed, is_without_journal}
use Rattle.input_lines.specs.declared.script_line.ScriptLine.{ScriptLine}
use Rattle.serving.specs.Answers.{AreAnswers, asked_by, is_possible}
use Rattle.serving.specs.declared.answer.ScriptAnswer.{ScriptAnswer}
use Rattle.serving.specs.declared.answer.ScriptAnswer.TheVariants.{NotPossible, Told as Answered}

-- the seat has a ticket of the order at that place, and the records up to that place are confirmed to it
abbrev pub HasRecord : SeatView → ℕ → Asked → Type 0
HasRecord seat place (Take input) = Contains seat.tickets (record { place = place; input = input }) × (place < seat.confirmed)
HasRecord seat place (Query id) = ⊥

-- the seat has a note of the result, and as many records are confirmed to it as the note's length says
abbrev pub HasNoted : SeatView → Asked → Told → Type 0
HasNoted seat asked told = (len : ℕ) × Contains seat.notes (record { asked = asked; told = told; length = len }) × (len ≤ seat.confirmed)

abbrev pub HasHeard : SeatView → Asked → Told → Type 0
HasHeard seat asked (Step (Recorded place)) = HasRecord seat place asked
HasHeard seat asked (Step Repeat) = HasNoted seat asked (Step Repeat)
HasHeard seat asked (Step Late) = HasNoted seat asked (Step Late)
HasHeard seat asked (Status status) = HasNoted seat asked (Status status)
HasHeard seat asked (Refused refusal) = is_unjudged refusal.code ≡ false → HasNoted seat asked (Refused refusal)

-- the seat at the line's node has heard the answer
pub record IsHeardAt (scheme : Scheme) (seats : List SeatView) (l : ScriptLine) (told : Told) : Type 0 where
  pub at : ℕ
  pub seat : SeatView
  pub index : index_of scheme l.node ≡ Some at
  pub is : slice_get seats at ≡ Some seat
  pub heard : HasHeard seat (asked_by l.instruction) told

abbrev pub IsHeard : Scheme → List SeatView → ScriptLine → ScriptAnswer → Type 0
IsHeard scheme seats l NotPossible = is_possible scheme l.node l.instruction ≡ false
IsHeard scheme seats l (Answered told) = (is_possible scheme l.node l.instruction ≡ true) × IsHeardAt scheme seats l told

-- each line has its answer, with these seats
abbrev pub AreHeard : Scheme → List SeatView → List ScriptLine → List ScriptAnswer → Type 0
AreHeard scheme seats lines answers = AreAnswers (IsHeard scheme seats) lines answers

-- a seat has kept all that it had
pub record Grows (old new : SeatView) : Type 0 where
  pub tickets : (t : Ticket) → Contains old.tickets t → Contains new.tickets t
  pub notes : (note : Note) → Contains old.notes note → Contains new.notes note
  pub confirmed : old.confirmed ≤ new.confirmed

-- ---- what the code follows; no public contract cites what stands below

-- a result is returned once it is confirmed, or at once if no journal judged it; or the node had stopped before
abbrev pub IsConfirmed : SeatView → Note → SeatView → Told → Type 0
IsConfirmed old note new told =
    ((told ≡ note.told) × (is_without_journal note.told ≡ true) × (new ≡ old))
    ⊎ (((told ≡ note.told) × (new ≡ confirmed old note)) ⊎ ((told ≡ Refused stopped) × (new ≡ old)))

abbrev pub AllGrow : List SeatView → List SeatView → Type 0
AllGrow olds news = (k : ℕ) (old : SeatView) → slice_get olds k ≡ Some old → (new : SeatView) × (slice_get news k ≡ Some new) × Grows old new
