-- How contracts see a state, and a seat.
use Rattle.std.specs.Prelude.{ℕ, Bool, true, List, Option, length, take, drop}
use Rattle.units.specs.declared.code.Node.{Node}
use Rattle.wire.specs.declared.input.Input.{Input}
use Rattle.scheme.specs.declared.registries.Scheme.{Scheme}
use Rattle.protocol.specs.History.{Entry}
use Rattle.protocol.specs.Verdict.{history}
use Rattle.node_state.specs.declared.notes.Asked.{Asked}
use Rattle.node_state.specs.declared.notes.Note.{Note}
use Rattle.node_state.specs.declared.notes.Ticket.{Ticket}
use Rattle.node_state.specs.declared.notes.Lengths.{Lengths}

-- a node's journal, how many of its records are committed, and how many were there when the state opened
pub record StateView : Type 0 where
  pub scheme : Scheme
  pub node : Node
  pub journal : List Input
  pub committed : ℕ
  pub opening : ℕ
  pub runs : Bool

-- a state that runs, with that journal, which was there at its opening and is committed as a whole
abbrev pub opened_with : Scheme → Node → List Input → StateView
opened_with scheme n journal = record { scheme = scheme; node = n; journal = journal; committed = length journal; opening = length journal; runs = true }

-- the history of the whole journal
abbrev pub past : StateView → List Entry
past held = history held.scheme held.node held.journal

-- the records that are committed, and those that aren't yet
abbrev pub committed_records : StateView → List Input
committed_records held = take held.committed held.journal

abbrev pub tail : StateView → List Input
tail held = drop held.committed held.journal

-- the history of the committed records
abbrev pub committed_past : StateView → List Entry
committed_past held = history held.scheme held.node (committed_records held)

-- the notes of a seat
pub record SeatView : Type 0 where
  -- the inputs that were recorded, and their places
  pub tickets : List Ticket
  -- all other results that it noted
  pub notes : List Note
  -- the greatest length of the journal that it noted
  pub seen : ℕ
  -- whether each length was at least those before it
  pub lengths : Lengths
  -- the greatest length that was confirmed to it
  pub confirmed : ℕ
  -- the question that it is about to ask, for which it has room
  pub prepared : Option Asked
