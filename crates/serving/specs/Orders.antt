-- Which records of a node are the orders of a script, and the records of the script's seats.
use Rattle.std.specs.Prelude.{◌≡◌, ◌⊎◌, ◌≤◌, ◌<◌, ◌+◌, ℕ, true, All, List, [], ◌∷◌, ◌++◌, Some, slice_get}
use Rattle.units.specs.declared.code.Node.{Node}
use Rattle.protocol.specs.Scheme.{Scheme}
use Rattle.protocol.specs.Registries.{index_of}
use Rattle.protocol.specs.declared.node_core.Stepped.TheVariants.{Recorded}
use Rattle.node_state.specs.Expected.{stopped}
use Rattle.node_state.specs.Views.{SeatView}
use Rattle.node_state.specs.declared.notes.Asked.{Asked}
use Rattle.node_state.specs.declared.notes.Asked.TheVariants.{Take}
use Rattle.node_state.specs.declared.notes.Lengths.TheVariants.{Grew}
use Rattle.node_state.specs.declared.notes.Note.{Note}
use Rattle.node_state.specs.declared.notes.Ticket.{Ticket}
use Rattle.node_state.specs.declared.notes.Told.{Told}
use Rattle.node_state.specs.declared.notes.Told.TheVariants.{Step, Refused}
use Rattle.sessions.specs.Orders.{was_ordered}
use Rattle.input_lines.specs.declared.script_line.ScriptLine.{ScriptLine}
use Rattle.serving.specs.Answers.{asked_by}
use Rattle.serving.specs.Heard.{AreHeard}
use Rattle.serving.specs.Notes.{AreNotes, AreOfLines}
use Rattle.serving.specs.declared.answer.ScriptAnswer.{ScriptAnswer}

-- the records that a question leaves: an order whose result is that it was recorded, at its place; and an order that a
-- node took before it stopped may also have been recorded
abbrev pub IsRecordOf : Asked → Told → List Ticket → Type 0
IsRecordOf (Take input) (Step (Recorded place)) records = records ≡ record { place = place; input = input } ∷ []
IsRecordOf (Take input) (Refused refusal) records = (records ≡ []) ⊎ ((refusal ≡ stopped) × ((place : ℕ) × (records ≡ record { place = place; input = input } ∷ [])))
IsRecordOf asked told records = records ≡ []

-- the records are the orders of the script to the node, in the script's order, each once
abbrev pub AreOrders : Node → List ScriptLine → List ScriptAnswer → List Ticket → Type 0
AreOrders n lines answers records = AreOfLines (λ l told. IsRecordOf (asked_by l.instruction) told) n lines answers records

-- the tickets that one more question leaves in a seat
pub record Adds (asked : Asked) (old new : SeatView) (told : Told) : Type 0 where
  pub records : List Ticket
  pub tickets : new.tickets ≡ old.tickets ++ records
  pub is : IsRecordOf asked told records
  pub grew : new.lengths ≡ Grew → (old.lengths ≡ Grew) × (old.seen ≤ new.seen) × All (λ (t : Ticket). (old.seen ≤ t.place + 1) × (t.place < new.seen)) records

-- the notes that one more question leaves in a seat
pub record Notes (Of : Told → List Note → Type 0) (old new : SeatView) (told : Told) : Type 0 where
  pub notes : List Note
  pub added : new.notes ≡ old.notes ++ notes
  pub is : Of told notes

-- ---- the contents of a script's seats, which the code follows; no public contract cites what stands below

-- no place is below one before it
abbrev pub Ascend : List Ticket → Type 0
Ascend tickets = (i j : ℕ) (t u : Ticket) → i < j → slice_get tickets i ≡ Some t → slice_get tickets j ≡ Some u → t.place ≤ u.place

-- if the lengths that the seat noted grew, so do the places of its tickets, all below the greatest length
abbrev pub AreInTurn : SeatView → Type 0
AreInTurn seat = seat.lengths ≡ Grew → Ascend seat.tickets × All (λ (t : Ticket). t.place < seat.seen) seat.tickets

-- the seat's records are the orders of the lines to that node, in their order, and its notes are all other results
-- there
pub record HasOrders (n : Node) (lines : List ScriptLine) (answers : List ScriptAnswer) (seat : SeatView) : Type 0 where
  pub orders : AreOrders n lines answers seat.tickets
  pub notes : AreNotes n lines answers seat.notes
  pub ordered : All (λ (t : Ticket). was_ordered t.input ≡ true) seat.tickets
  pub turns : AreInTurn seat

-- the same for the seat at each node
abbrev pub HaveOrders : Scheme → List ScriptLine → List ScriptAnswer → List SeatView → Type 0
HaveOrders scheme lines answers seats = (n : Node) (at : ℕ) (seat : SeatView) → index_of scheme n ≡ Some at → slice_get seats at ≡ Some seat → HasOrders n lines answers seat

-- each line has its answer as these seats heard it, and their records are its orders
pub record IsPlayed (scheme : Scheme) (lines : List ScriptLine) (answers : List ScriptAnswer) (seats : List SeatView) : Type 0 where
  pub heard : AreHeard scheme seats lines answers
  pub orders : HaveOrders scheme lines answers seats
