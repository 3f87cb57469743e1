-- The transfers that an acquirer keeps, and the facts that it reads off them.
use Rattle.std.specs.Prelude.{ℕ, Bool, false, ◌==◌, ◌&&◌, Option, option_and_then}
use Rattle.std.specs.BTreeMap.{BTreeMap}
use Rattle.std.specs.FinMap.{FinMap, from_entries}
use Rattle.std.specs.Option.{option_map_or}
use Rattle.units.specs.declared.code.Code.{Code}
use Rattle.status.specs.Content.{Content}
use Rattle.status.specs.Id.{id_cmp}
use Rattle.status.specs.Status.{same_status}
use Rattle.status.specs.declared.id.TransactionId.{TransactionId}
use Rattle.status.specs.declared.rows.RecordedStatus.{RecordedStatus}
use Rattle.status.specs.declared.rows.RecordedStatus.TheVariants.{Unknown, Bare, Stands}
use Rattle.status.specs.declared.status.Status.{Status}
use Rattle.status.specs.declared.status.Status.TheVariants.{Accepted}
use Rattle.acquirer.specs.declared.transfer.IncomingTransfer.{IncomingTransfer}

-- the registry, and the transfers to it
pub record AcquirerView : Type 0 where
  pub code : Code
  pub transfers : FinMap id_cmp IncomingTransfer

-- the recorded status of a transfer, as the status table takes it
abbrev pub known_of : IncomingTransfer → RecordedStatus
known_of x = option_map_or (λ k. Stands x.status) x.content Bare

abbrev pub known_transfer : Option IncomingTransfer → RecordedStatus
known_transfer x = option_map_or known_of x Unknown

-- its content, where it is known
abbrev pub kept_content : Option IncomingTransfer → Option Content
kept_content x = option_and_then (λ y. y.content) x

-- it was accepted, and its units are to go to that account
abbrev pub is_awaited_by : ℕ → Option IncomingTransfer → Bool
is_awaited_by account x = option_map_or (λ y. same_status y.status Accepted && option_map_or (λ k. k.to_account == account) y.content false) x false

-- the transfer after it moved to that status
abbrev pub finished : Status → IncomingTransfer → IncomingTransfer
finished new x = record x { status = new }

-- the transfers by their identifiers
unfoldable pub transfers_by_id : BTreeMap TransactionId IncomingTransfer → FinMap id_cmp IncomingTransfer
transfers_by_id transfers = from_entries transfers.entries
