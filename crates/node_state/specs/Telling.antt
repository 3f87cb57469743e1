-- What a seat keeps of each result.
use Rattle.std.specs.Prelude.{ℕ, Bool, ◌||◌, ◌==◌, nat_lt, max, List, [], ◌∷◌, ◌++◌, if◌then◌else◌, None}
use Rattle.units.specs.RefusalCodes.{node_stopped, out_of_memory}
use Rattle.protocol.specs.declared.node_core.Stepped.TheVariants.{Recorded, Repeat, Late}
use Rattle.node_state.specs.declared.notes.Asked.{Asked}
use Rattle.node_state.specs.declared.notes.Asked.TheVariants.{Take, Query}
use Rattle.node_state.specs.declared.notes.Lengths.TheVariants.{Fell}
use Rattle.node_state.specs.declared.notes.Note.{Note}
use Rattle.node_state.specs.declared.notes.Ticket.{Ticket}
use Rattle.node_state.specs.declared.notes.Told.{Told}
use Rattle.node_state.specs.declared.notes.Told.TheVariants.{Step, Status, Refused}
use Rattle.node_state.specs.Views.{SeatView}

-- an input that was recorded adds one ticket
abbrev pub tickets_after : List Ticket → Told → Asked → List Ticket
tickets_after tickets (Step (Recorded place)) (Take input) = tickets ++ record { place = place; input = input } ∷ []
tickets_after tickets (Step (Recorded place)) (Query id) = tickets
tickets_after tickets (Step Repeat) asked = tickets
tickets_after tickets (Step Late) asked = tickets
tickets_after tickets (Status status) asked = tickets
tickets_after tickets (Refused refusal) asked = tickets

-- the refusals that aren't the core's: the node had stopped, or memory ran out
abbrev pub is_unjudged : ℕ → Bool
is_unjudged code = (code == node_stopped) || (code == out_of_memory)

-- any other result adds one note, except these refusals
abbrev pub notes_after : List Note → Told → Note → List Note
notes_after notes (Step (Recorded place)) note = notes
notes_after notes (Step Repeat) note = notes ++ note ∷ []
notes_after notes (Step Late) note = notes ++ note ∷ []
notes_after notes (Status status) note = notes ++ note ∷ []
notes_after notes (Refused refusal) note = if is_unjudged refusal.code then notes else notes ++ note ∷ []

-- the seat after it has kept this note
abbrev pub kept : SeatView → Note → SeatView
kept seat note = record seat {
  tickets = tickets_after seat.tickets note.told note.asked;
  notes = notes_after seat.notes note.told note;
  seen = max seat.seen note.length;
  lengths = if nat_lt note.length seat.seen then Fell else seat.lengths;
  prepared = None;
}
