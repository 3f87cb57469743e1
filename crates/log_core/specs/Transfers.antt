-- The log's tables of transactions, and how the tables fit together. No public contract cites it.
use Rattle.std.specs.Prelude.{◌≡◌, ℕ, ◌==◌, ◌&&◌, Bool, true, false, List, [], ◌∷◌, Option, Some, None, option_map, is_some}
use Rattle.std.specs.BTreeMap as tree
use Rattle.std.specs.BTreeMap.{BTreeMap}
use Rattle.std.specs.BTreeSet.{BTreeSet, contains}
use Rattle.std.specs.FinMap as finite
use Rattle.std.specs.List.{AllByRecursion}
use Rattle.std.specs.Option.{option_map_or}
use Rattle.units.specs.Apart.{AllApart}
use Rattle.units.specs.Keys.{code_cmp, unit_cmp}
use Rattle.units.specs.declared.block.Block.{Block}
use Rattle.units.specs.declared.block.Unit.{Unit as Serial}
use Rattle.units.specs.declared.code.Code.{Code}
use Rattle.status.specs.Content.{Content, raws}
use Rattle.status.specs.Id.{id_cmp, same_id}
use Rattle.status.specs.Status.{same_status}
use Rattle.status.specs.declared.id.TransactionId.{TransactionId}
use Rattle.status.specs.declared.moment.Moment.{Moment}
use Rattle.status.specs.declared.rows.RecordedStatus.{RecordedStatus}
use Rattle.status.specs.declared.rows.RecordedStatus.TheVariants.{Unknown, Bare, Stands}
use Rattle.status.specs.declared.status.Status.{Status}
use Rattle.status.specs.declared.status.Status.TheVariants.{Cancelled, Checked, Completed}
use Rattle.checks.specs.declared.register.UnderWay.{UnderWay}
use Rattle.protocol.specs.History.{has_serial}
use Rattle.log_core.specs.Effects.{transfer_state_content, transfer_state_in}
use Rattle.log_core.specs.Kept.{waiting_cmp}
use Rattle.log_core.specs.Readings.{TransferState, of_transfer}
use Rattle.log_core.specs.declared.effect.LogEffect.{LogEffect}
use Rattle.log_core.specs.declared.effect.LogEffect.TheVariants.{Transfers, Eligible}
use Rattle.log_core.specs.declared.effect.TransferEffect.{TransferEffect}
use Rattle.log_core.specs.declared.effect.TransferEffect.TheVariants.{Begin, Advance, Cancel}
use Rattle.log_core.specs.declared.tables.Tables.{Tables}
use Rattle.log_core.specs.declared.transfer.LoggedTransfer.{LoggedTransfer}
use Rattle.log_core.specs.declared.waiting.Waiting.{Waiting}

-- where a transaction stands
abbrev pub transfer_state_of : BTreeMap TransactionId LoggedTransfer → TransactionId → Option TransferState
transfer_state_of transfers t = option_map of_transfer (tree.get id_cmp transfers t)

-- the transaction with that status, since that moment
abbrev pub came_at : Status → Moment → LoggedTransfer → LoggedTransfer
came_at new moment x = record x { status = new; since = moment }

-- the recorded status of a transaction, as the status table takes it
abbrev pub known_transfer_state : Option TransferState → RecordedStatus
known_transfer_state x = option_map_or (λ y. option_map_or (λ k. Stands y.status) y.content Bare) x Unknown

-- it stands Checked since that second
abbrev pub stands_checked_since : ℕ → Option TransferState → Bool
stands_checked_since since x = option_map_or (λ y. same_status y.status Checked && (y.since == since)) x false

-- the entry is that one
abbrev pub is_waiting_entry : Waiting → Waiting → Bool
is_waiting_entry w p = (p.since.seconds == w.since.seconds) && same_id p.id w.id

-- the set has the transactions that stand Checked, each by its moment
abbrev pub AreWaiting : BTreeMap TransactionId LoggedTransfer → BTreeSet Waiting → Type 0
AreWaiting transfers checked = (w : Waiting) → contains waiting_cmp checked w ≡ stands_checked_since w.since.seconds (transfer_state_of transfers w.id)

-- a unit that is under way is one of its transfer's
abbrev pub AreLabelled : BTreeMap TransactionId LoggedTransfer → finite.FinMap unit_cmp UnderWay → Type 0
AreLabelled transfers under_way = (s : Serial) (u : UnderWay) → finite.get under_way s ≡ Some u → has_serial (transfer_state_content (transfer_state_of transfers u.id)) s ≡ true

-- ---- the tables that an effect may be carried out on

-- a transaction that begins wasn't known, and those that are cancelled were
abbrev pub IsOfKnown : (TransactionId → Option TransferState) → TransferEffect → Type 0
IsOfKnown old (Begin id new content) = old id ≡ None
IsOfKnown old (Advance id new) = Unit {0}
IsOfKnown old (Cancel ids) = AllByRecursion (λ t. is_some (old t) ≡ true) ids.items

-- the known transactions allow the effect
abbrev pub IsAllowed : (TransactionId → Option TransferState) → LogEffect → Type 0
IsAllowed old (Transfers effect moment) = IsOfKnown old effect
IsAllowed old (Eligible registry may) = Unit {0}

-- the effect that takes a transaction back: one that is known is cancelled, and one that isn't begins Cancelled without
-- a content
abbrev pub IsWithdrawal : TransactionId → Option TransferState → TransferEffect → Type 0
IsWithdrawal t None effect = effect ≡ Begin t Cancelled None
IsWithdrawal t (Some x) (Cancel ids) = ids.items ≡ t ∷ []
IsWithdrawal t (Some x) _ = ⊥

-- no unit is in two blocks of the content
abbrev pub IsApart : Option Content → Type 0
IsApart content = (k : Content) (blocks : List Block) → content ≡ Some k → raws blocks ≡ k.units → AllApart blocks

-- units that come under way, or that are handed over, are each in one block
abbrev pub AreApart : (TransactionId → Option TransferState) → TransferEffect → Type 0
AreApart old (Begin id new content) = same_status new Checked ≡ true → IsApart content
AreApart old (Advance id new) = (same_status new Checked ≡ false) × (same_status new Completed ≡ true → IsApart (transfer_state_content (old id)))
AreApart old (Cancel ids) = Unit {0}

-- the tables that an effect may be carried out on
abbrev pub MayCarry : (TransactionId → Option TransferState) → LogEffect → Type 0
MayCarry old (Transfers effect moment) = IsOfKnown old effect × AreApart old effect
MayCarry old (Eligible registry may) = Unit {0}

-- tables with the same contents
pub record AreSame (tables tables' : Tables) : Type 0 where
  pub scheme : tables'.scheme ≡ tables.scheme
  pub records : tables'.records ≡ tables.records
  pub allotments : tables'.register.allotments ≡ tables.register.allotments
  pub book : tables'.register.book ≡ tables.register.book
  pub under_way : tables'.register.under_way ≡ tables.register.under_way
  pub orders : (c : Code) → tree.get code_cmp tables'.register.orders c ≡ tree.get code_cmp tables.register.orders c
  pub transfers : (t : TransactionId) → transfer_state_in tables' t ≡ transfer_state_in tables t
  pub checked : (w : Waiting) → contains waiting_cmp tables'.checked w ≡ contains waiting_cmp tables.checked w
