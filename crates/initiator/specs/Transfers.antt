-- The transfers that an initiator keeps, and the facts that it reads off them.
use Rattle.std.specs.Prelude.{ℕ, Bool, true, false, ◌&&◌, not, cond, [], ◌∷◌, Option, is_some}
use Rattle.std.specs.BTreeMap.{BTreeMap}
use Rattle.std.specs.FinMap.{FinMap, from_entries, get}
use Rattle.std.specs.Option.{option_map_or}
use Rattle.units.specs.Code.{same_code}
use Rattle.units.specs.RefusalCodes.{not_proposed_here, no_longer_proposed}
use Rattle.units.specs.declared.code.Code.{Code}
use Rattle.status.specs.Id.{id_cmp}
use Rattle.status.specs.Status.{same_status}
use Rattle.status.specs.declared.id.TransactionId.{TransactionId}
use Rattle.status.specs.declared.rows.RecordedStatus.{RecordedStatus}
use Rattle.status.specs.declared.rows.RecordedStatus.TheVariants.{Unknown, Stands}
use Rattle.status.specs.declared.rows.RowInput.{RowInput}
use Rattle.status.specs.declared.rows.RowInput.TheVariants.{RequestOrder, RepeatedRequestOrder}
use Rattle.status.specs.declared.status.Status.{Status}
use Rattle.status.specs.declared.status.Status.TheVariants.{Proposed}
use Rattle.protocol.specs.Checks.{Causes}
use Rattle.initiator.specs.declared.transfer.Cancellation.{Cancellation}
use Rattle.initiator.specs.declared.transfer.Cancellation.TheVariants.{NotAsked, Asked}
use Rattle.initiator.specs.declared.transfer.OutgoingTransfer.{OutgoingTransfer}

-- the registry, the last transaction number that it gave (0 before the first), and its transfers
pub record InitiatorView : Type 0 where
  pub code : Code
  pub last : ℕ
  pub transfers : FinMap id_cmp OutgoingTransfer

-- a new transfer
abbrev pub opened : OutgoingTransfer
opened = record { status = Proposed; cancellation = NotAsked }

-- the transfer after its cancellation was asked for
abbrev pub asked : OutgoingTransfer → OutgoingTransfer
asked x = record x { cancellation = Asked }

-- the transfer after it moved to that status
abbrev pub concluded : Status → OutgoingTransfer → OutgoingTransfer
concluded new x = record x { status = new }

-- the recorded status of a transfer, as the status table takes it: an initiator always has its content
abbrev pub known_transfer : Option OutgoingTransfer → RecordedStatus
known_transfer x = option_map_or (λ y. Stands y.status) x Unknown

abbrev pub is_asked : Cancellation → Bool
is_asked NotAsked = false
is_asked Asked = true

-- the column of an order to ask for cancellation: the first one for its transfer, or another
abbrev pub column_of_request : Option OutgoingTransfer → RowInput
column_of_request x = cond (option_map_or (λ y. is_asked y.cancellation) x false) RepeatedRequestOrder RequestOrder

-- it stands Proposed
abbrev pub is_still_proposed : Option OutgoingTransfer → Bool
is_still_proposed x = option_map_or (λ y. same_status y.status Proposed) x false

-- the transfers by their identifiers
unfoldable pub transfers_by_id : BTreeMap TransactionId OutgoingTransfer → FinMap id_cmp OutgoingTransfer
transfers_by_id transfers = from_entries transfers.entries

-- why an order to ask for a transfer's cancellation is refused
abbrev pub cancellation_refusals : InitiatorView → TransactionId → Causes
cancellation_refusals i t =
    (not (same_code t.code i.code && is_some (get i.transfers t)), not_proposed_here)
    ∷ (not (is_still_proposed (get i.transfers t)), no_longer_proposed)
    ∷ []
