-- The effects of transitions on the log's tables. No public contract cites it.
use Rattle.std.specs.Prelude.{◌≡◌, ℕ, ◌==◌, ◌&&◌, ◌||◌, not, Bool, List, [], ◌∷◌, map, Option, Some, None, option_map, if◌then◌else◌}
use Rattle.std.specs.BTreeMap as tree
use Rattle.std.specs.BTreeSet.{contains}
use Rattle.std.specs.FinMap as finite
use Rattle.std.specs.List.{AllByRecursion, list_any}
use Rattle.units.specs.Intervals.{labels_that}
use Rattle.units.specs.Code.{same_code}
use Rattle.units.specs.Keys.{code_cmp}
use Rattle.units.specs.declared.block.Unit.{Unit as Serial}
use Rattle.units.specs.declared.code.Code.{Code}
use Rattle.wire.specs.declared.input.Input.{Input}
use Rattle.wire.specs.declared.input.Input.TheVariants as inputs
use Rattle.status.specs.Content.{Content}
use Rattle.status.specs.Id.{same_id, id_cmp}
use Rattle.status.specs.Status.{same_status}
use Rattle.status.specs.declared.id.TransactionId.{TransactionId}
use Rattle.status.specs.declared.status.Status.{Status}
use Rattle.status.specs.declared.status.Status.TheVariants.{Checked, Accepted, Rejected, Cancelled, Completed}
use Rattle.checks.specs.declared.register.BookEntry.{BookEntry}
use Rattle.checks.specs.declared.register.UnderWay.{UnderWay}
use Rattle.protocol.specs.History.{Transition, has_serial}
use Rattle.log_core.specs.Kept.{waiting_cmp}
use Rattle.log_core.specs.Readings.{TransferState, of_transfer}
use Rattle.log_core.specs.Taking.{IsMessageOrCleanUp}
use Rattle.log_core.specs.declared.effect.LogEffect.{LogEffect}
use Rattle.log_core.specs.declared.effect.LogEffect.TheVariants.{Transfers, Eligible}
use Rattle.log_core.specs.declared.effect.TransferEffect.{TransferEffect}
use Rattle.log_core.specs.declared.effect.TransferEffect.TheVariants.{Begin, Advance, Cancel}
use Rattle.log_core.specs.declared.tables.Tables.{Tables}
use Rattle.log_core.specs.declared.waiting.Waiting.{Waiting}

-- one of these transactions
abbrev pub is_among : List TransactionId → TransactionId → Bool
is_among ids t = list_any (λ u. same_id u t) ids

-- ---- the effects that the transitions of a record ask for

abbrev pub IsCancelledAt : ℕ → Transition → Type 0
IsCancelledAt moment x = (x.new ≡ Cancelled) × (x.moment ≡ moment)

-- statuses to which a known transaction advances
abbrev pub IsAdvanced : Status → Type 0
IsAdvanced Accepted = Unit {0}
IsAdvanced Rejected = Unit {0}
IsAdvanced Completed = Unit {0}
IsAdvanced _ = ⊥

-- the transitions ask for this effect, at that second
abbrev pub IsEffect : List Transition → ℕ → TransferEffect → Type 0
IsEffect xs moment (Begin id new content) =
    (x : Transition) × (xs ≡ x ∷ []) × (x.id ≡ id) × (x.new ≡ new) × (x.content ≡ content) × (x.moment ≡ moment) × (IsAdvanced new → ⊥)
IsEffect xs moment (Advance id new) = (x : Transition) × (xs ≡ x ∷ []) × (x.id ≡ id) × (x.new ≡ new) × (x.moment ≡ moment) × IsAdvanced new
IsEffect xs moment (Cancel ids) = (map (λ x. x.id) xs ≡ ids.items) × AllByRecursion (IsCancelledAt moment) xs

-- a record of that input with these transitions asks for this effect
abbrev pub AreEffects : Input → List Transition → LogEffect → Type 0
AreEffects input xs (Transfers effect moment) = IsMessageOrCleanUp input × IsEffect xs moment.seconds effect
AreEffects input xs (Eligible registry may) = (input ≡ inputs.Eligible registry may) × (xs ≡ [])

-- ---- the tables after an effect

abbrev pub transfer_state_in : Tables → TransactionId → Option TransferState
transfer_state_in tables t = option_map of_transfer (tree.get id_cmp tables.transfers t)

-- the state of a transaction after it moved to that status at that second
abbrev pub came_to : Status → ℕ → TransferState → TransferState
came_to new moment x = record x { status = new; since = moment }

abbrev pub transfer_state_content : Option TransferState → Option Content
transfer_state_content (Some x) = x.content
transfer_state_content None = None

-- the acquirer's, where the unit is in the transfer
abbrev pub handed_over : Option Content → Serial → Option BookEntry → Option BookEntry
handed_over (Some k) s owner = if has_serial (Some k) s then Some (record { registry = k.acquirer }) else owner
handed_over None s owner = owner

-- each transaction's state
abbrev pub transfer_state_after : TransferEffect → ℕ → (TransactionId → Option TransferState) → TransactionId → Option TransferState
transfer_state_after (Begin id new content) moment old t = if same_id id t then Some (record { status = new; content = content; since = moment }) else old t
transfer_state_after (Advance id new) moment old t = if same_id id t then option_map (came_to new moment) (old t) else old t
transfer_state_after (Cancel ids) moment old t = if is_among ids.items t then option_map (came_to Cancelled moment) (old t) else old t

-- which transfer each unit is in
abbrev pub under_way_after : TransferEffect → Serial → Option UnderWay → Option UnderWay
under_way_after (Begin id new content) s old = if same_status new Checked && has_serial content s then Some (record { id = id }) else old
under_way_after (Advance id new) s old = if same_status new Accepted then old else labels_that (λ u. not (same_id u.id id)) old
under_way_after (Cancel ids) s old = labels_that (λ u. not (is_among ids.items u.id)) old

-- the owner of each unit
abbrev pub owner_after : TransferEffect → (TransactionId → Option TransferState) → Serial → Option BookEntry → Option BookEntry
owner_after (Advance id new) transfer_state s old = if same_status new Completed then handed_over (transfer_state_content (transfer_state id)) s old else old
owner_after _ transfer_state s old = old

-- which transactions stand Checked, and since when
abbrev pub waits_after : TransferEffect → ℕ → Waiting → Bool → Bool
waits_after (Begin id new content) moment w old = (same_status new Checked && (same_id id w.id && (moment == w.since.seconds))) || old
waits_after (Advance id new) moment w old = not (same_id id w.id) && old
waits_after (Cancel ids) moment w old = not (is_among ids.items w.id) && old

-- the effect, at that second, was carried out
pub record Carried (effect : TransferEffect) (moment : ℕ) (tables tables' : Tables) : Type 0 where
  pub allotments : tables'.register.allotments ≡ tables.register.allotments
  pub orders : tables'.register.orders ≡ tables.register.orders
  pub transfers : (t : TransactionId) → transfer_state_in tables' t ≡ transfer_state_after effect moment (transfer_state_in tables) t
  pub under_way : (s : Serial) → finite.get tables'.register.under_way s ≡ under_way_after effect s (finite.get tables.register.under_way s)
  pub book : (s : Serial) → finite.get tables'.register.book s ≡ owner_after effect (transfer_state_in tables) s (finite.get tables.register.book s)
  pub checked : (w : Waiting) → contains waiting_cmp tables'.checked w ≡ waits_after effect moment w (contains waiting_cmp tables.checked w)

-- an order on eligibility leaves all else as it was
pub record IsOrdered (registry : Code) (may : Bool) (tables tables' : Tables) : Type 0 where
  pub allotments : tables'.register.allotments ≡ tables.register.allotments
  pub book : tables'.register.book ≡ tables.register.book
  pub under_way : tables'.register.under_way ≡ tables.register.under_way
  pub transfers : tables'.transfers ≡ tables.transfers
  pub checked : tables'.checked ≡ tables.checked
  pub orders : (d : Code) → tree.get code_cmp tables'.register.orders d ≡ (if same_code registry d then Some may else tree.get code_cmp tables.register.orders d)

abbrev pub CarriedOut : LogEffect → Tables → Tables → Type 0
CarriedOut (Transfers effect moment) tables tables' = Carried effect moment.seconds tables tables'
CarriedOut (Eligible registry may) tables tables' = IsOrdered registry may tables tables'
