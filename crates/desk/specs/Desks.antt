-- The results of the calls of a desk. No clause can name the state under a desk's lock, so each says that there is some
-- state for which the result is right.
use Rattle.std.specs.Prelude.{◌≡◌, ◌⊎◌, ℕ, ◌<◌, ◌≤◌, true, false, length, slice_get, option_map, Option, None, Some, IfSome}
use Rattle.units.specs.RefusalCodes.{out_of_memory}
use Rattle.units.specs.declared.code.Node.{Node}
use Rattle.status.specs.declared.id.TransactionId.{TransactionId}
use Rattle.wire.specs.declared.input.Input.{Input}
use Rattle.wire.specs.declared.message.Message.{Message}
use Rattle.protocol.specs.History.{is_acknowledged, sends}
use Rattle.protocol.specs.Unacknowledged.{IsLeastFrom, awaits}
use Rattle.node_state.specs.declared.notes.Note.{Note}
use Rattle.node_state.specs.declared.notes.Told.{Told}
use Rattle.node_state.specs.declared.notes.Told.TheVariants.{Refused}
use Rattle.desk.specs.declared.confirmation.Confirmation.{Confirmation}
use Rattle.desk.specs.declared.confirmation.Confirmation.TheVariants.{Committed, Awaited, Stopped}
use Rattle.node_state.specs.Calls.{Tells}
use Rattle.node_state.specs.Expected.{status_told}
use Rattle.node_state.specs.Views.{StateView, committed_past, past}

-- memory ran out before the state was asked
abbrev pub lacking : Told
lacking = Refused (record { code = out_of_memory })

-- some state took the input and returned this, and its journal then had this length; or memory ran out
abbrev pub IsTakeOf : Input → Note → Type 0
IsTakeOf input taken = (taken.told ≡ lacking) ⊎ ((old : StateView) × (new : StateView) × Tells old input (taken.told) new × (taken.length ≡ length new.journal))

-- some state returned this for the transaction, and its journal had this length; or memory ran out
abbrev pub IsQueryOf : TransactionId → Note → Type 0
IsQueryOf id taken = (taken.told ≡ lacking) ⊎ ((held : StateView) × (taken.told ≡ status_told held id) × (taken.length ≡ length held.journal))

-- the state has this to send to the peer from that key on: the least key of a message that a committed record sends and
-- no record acknowledges, with the message
pub record HasToSend (held : StateView) (peer : Node) (from : ℕ) (found : Option (ℕ × Message)) : Type 0 where
  pub stopped : held.runs ≡ false → found ≡ None
  pub key : held.runs ≡ true → IsLeastFrom (awaits (sends (committed_past held)) (is_acknowledged (past held)) peer) from (option_map (λ sent. sent.0) found)
  pub message : IfSome found (λ sent. slice_get (sends (committed_past held)) sent.0 ≡ Some sent.1)

-- ---- what the code follows; no public contract cites what stands below

-- the note that is handed back is the one that was taken
abbrev pub IsOf : Note → Confirmation → Type 0
IsOf taken (Committed receipt) = receipt ≡ taken
IsOf taken (Awaited back) = back ≡ taken
IsOf taken Stopped = Unit {0}

-- whether the first `count` records of the state are committed
abbrev pub IsConfirmation : StateView → ℕ → Confirmation → Type 0
IsConfirmation held count (Committed receipt) = count ≤ held.committed
IsConfirmation held count (Awaited back) = (held.committed < count) × (held.runs ≡ true)
IsConfirmation held count Stopped = (held.committed < count) × (held.runs ≡ false)
