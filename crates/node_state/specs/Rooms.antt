-- What holds of each seat: it has room for the next note, and its notes are of inputs that weren't recorded.
use Rattle.std.specs.Prelude.{◌<◌, ℕ, List, All, Option, Some, None}
use Rattle.protocol.specs.declared.node_core.Stepped.TheVariants.{Recorded, Repeat, Late}
use Rattle.node_state.specs.declared.notes.Asked.{Asked}
use Rattle.node_state.specs.declared.notes.Note.{Note}
use Rattle.node_state.specs.declared.notes.Told.{Told}
use Rattle.node_state.specs.declared.notes.Told.TheVariants.{Step, Status, Refused}

-- no input was recorded
abbrev pub IsNoRecord : Told → Type 0
IsNoRecord (Step (Recorded place)) = ⊥
IsNoRecord (Step Repeat) = Unit {0}
IsNoRecord (Step Late) = Unit {0}
IsNoRecord (Status status) = Unit {0}
IsNoRecord (Refused refusal) = Unit {0}

abbrev pub TellNoRecord : List Note → Type 0
TellNoRecord notes = All (λ (note : Note). IsNoRecord (note.told)) notes

-- ---- what the code follows; no public contract cites what stands below

-- there is room for one more ticket and one more note, if something is about to be asked
abbrev pub HasRoom : Option Asked → ℕ → ℕ → ℕ → ℕ → Type 0
HasRoom None tickets room_of_tickets notes room_of_notes = Unit {0}
HasRoom (Some asked) tickets room_of_tickets notes room_of_notes = (tickets < room_of_tickets) × (notes < room_of_notes)
