-- The effects of a transition on the tables. No public contract cites it.
use Rattle.std.specs.Prelude.{◌≡◌, ℕ, ◌==◌, not, Bool, true, false, cond, List, [], ◌∷◌, Option, Some, None, option_map, if◌then◌else◌}
use Rattle.std.specs.FinMap as map
use Rattle.std.specs.Option.{option_or}
use Rattle.units.specs.Intervals.{labels_that}
use Rattle.units.specs.Unit.{have_unit}
use Rattle.units.specs.declared.block.Block.{Block}
use Rattle.units.specs.declared.block.Unit.{Unit as Serial}
use Rattle.units.specs.declared.code.Code.{Code}
use Rattle.status.specs.Content.{Content, raws}
use Rattle.status.specs.Id.{same_id, id_cmp}
use Rattle.status.specs.Status.{same_status}
use Rattle.status.specs.declared.id.TransactionId.{TransactionId}
use Rattle.status.specs.declared.status.Status.{Status}
use Rattle.status.specs.declared.status.Status.TheVariants.{Completed, Cancelled}
use Rattle.accounts.specs.Holdings.{HoldingsView, reserved, released, is_reserved_by, free_unit_holding, kind_in}
use Rattle.accounts.specs.Refusals.{HasUnits, MayReserve}
use Rattle.accounts.specs.declared.unit_holding.AccountStatus.{AccountStatus}
use Rattle.accounts.specs.declared.unit_holding.AccountStatus.TheVariants as accounts
use Rattle.accounts.specs.declared.unit_holding.UnitHolding.{UnitHolding}
use Rattle.wire.specs.declared.input.Input.{Input}
use Rattle.wire.specs.declared.input.Input.TheVariants.{Propose, Request, OpenAccount, CloseAccount, Received}
use Rattle.wire.specs.declared.message.Body.{Body}
use Rattle.wire.specs.declared.message.Body.TheVariants as body
use Rattle.protocol.specs.History.{Entry, Transition, transitions_of, is_known}
use Rattle.initiator.specs.Transfers as initiator
use Rattle.initiator.specs.Transfers.{InitiatorView}
use Rattle.acquirer.specs.Crediting.{MayCredit}
use Rattle.acquirer.specs.Transfers as acquirer
use Rattle.acquirer.specs.Transfers.{AcquirerView}
use Rattle.registry_core.specs.Readings.{is_own, is_foreign}
use Rattle.registry_core.specs.declared.effect.RegistryEffect.{RegistryEffect}
use Rattle.registry_core.specs.declared.effect.RegistryEffect.TheVariants.{Open, Ask, Conclude, Arrive, Forestall, Complete, Cancel}
use Rattle.registry_core.specs.declared.effect.RegistryEffect.TheVariants as effects

-- a transition by a message with that body about that transaction asks for this effect
abbrev pub IsEffectOf : Code → List Entry → TransactionId → Body → Transition → RegistryEffect → Type 0
IsEffectOf c es t (body.Proposal p) x (Arrive id new content) = (t ≡ id) × (x.new ≡ new) × (p.content ≡ content)
IsEffectOf c es t (body.Notification n) x (Conclude id new) = (t ≡ id) × (x.new ≡ new) × (is_own c id ≡ true)
IsEffectOf c es t (body.Notification n) x (Forestall id) = (t ≡ id) × (is_known (transitions_of es) id ≡ false)
IsEffectOf c es t (body.Notification n) x (Complete id) = (t ≡ id) × (x.new ≡ Completed) × (is_foreign c id ≡ true) × (is_known (transitions_of es) id ≡ true)
IsEffectOf c es t (body.Notification n) x (Cancel id) = (t ≡ id) × (x.new ≡ Cancelled) × (is_foreign c id ≡ true) × (is_known (transitions_of es) id ≡ true)
IsEffectOf c es t _ x _ = ⊥

-- a transition by that input asks for this effect
abbrev pub IsEffect : Code → List Entry → Input → Transition → RegistryEffect → Type 0
IsEffect c es (Propose o) x (Open new_transfer) = (x.id ≡ new_transfer.id) × (x.content ≡ Some new_transfer.content)
IsEffect c es (Request t) x (Ask id) = t ≡ id
IsEffect c es (Received m moment) x effect = IsEffectOf c es m.id m.body x effect
IsEffect c es _ x _ = ⊥

-- a record of that input with these transitions asks for this effect
abbrev pub AreEffects : Code → List Entry → Input → List Transition → RegistryEffect → Type 0
AreEffects c es input (x ∷ []) effect = IsEffect c es input x effect
AreEffects c es (OpenAccount n) [] (effects.OpenAccount account) = n.value ≡ account
AreEffects c es (CloseAccount n) [] (effects.CloseAccount account) = n.value ≡ account
AreEffects c es input _ effect = ⊥

-- the effect that ends a transfer to the registry, which the registry may know or not
abbrev pub ending : Bool → TransactionId → Status → RegistryEffect
ending false id new = Forestall id
ending true id new = cond (same_status new Completed) (Complete id) (Cancel id)

-- the holdings allow the new transfer, or the order on an account
abbrev pub IsAllowed : RegistryEffect → HoldingsView → Type 0
IsAllowed (Open new_transfer) held = (blocks : List Block) → raws blocks ≡ new_transfer.content.units → MayReserve held new_transfer.content.account blocks
IsAllowed (effects.OpenAccount account) held = map.get held.accounts account ≡ Some accounts.Closed
IsAllowed (effects.CloseAccount account) held = (map.get held.accounts account ≡ Some accounts.Open) × (HasUnits held account → ⊥)
IsAllowed _ held = Unit {0}

-- the tables that an effect may be carried out on
abbrev pub MayCarry : RegistryEffect → InitiatorView → AcquirerView → HoldingsView → Type 0
MayCarry (Open new_transfer) i a held = (map.get i.transfers new_transfer.id ≡ None) × IsAllowed (Open new_transfer) held
MayCarry (Arrive id new content) i a held = map.get a.transfers id ≡ None
MayCarry (Forestall id) i a held = map.get a.transfers id ≡ None
MayCarry (Complete id) i a held = (k : Content) → acquirer.kept_content (map.get a.transfers id) ≡ Some k → MayCredit held k
MayCarry effect i a held = IsAllowed effect held

-- ---- the tables after an effect

-- one transaction changed, and no other
abbrev pub ChangedAt : {X : Type 0} → TransactionId → (Option X → Option X) → map.FinMap id_cmp X → map.FinMap id_cmp X → Type 0
ChangedAt id change m m' = (t : TransactionId) → map.get m' t ≡ (if same_id id t then change (map.get m t) else map.get m t)

-- the accounts are as they were, and each unit has the given holding
abbrev pub UnitHoldingsAre : HoldingsView → HoldingsView → (Serial → Option UnitHolding) → Type 0
UnitHoldingsAre held held' unit_holding = (held'.accounts ≡ held.accounts) × ((s : Serial) → map.get held'.unit_holdings s ≡ unit_holding s)

-- the units are held as they were, and one account has that status
abbrev pub AccountBecomes : ℕ → AccountStatus → HoldingsView → HoldingsView → Type 0
AccountBecomes account status held held' = (held'.unit_holdings ≡ held.unit_holdings) × ((n : ℕ) → map.get held'.accounts n ≡ (if n == account then Some status else map.get held.accounts n))

abbrev pub Carried : RegistryEffect → (i i' : InitiatorView) (a a' : AcquirerView) (held held' : HoldingsView) → Type 0
Carried (Open new_transfer) i i' a a' held held' =
    (i'.code ≡ i.code) × (i'.last ≡ new_transfer.id.number) × ChangedAt new_transfer.id (λ x. Some initiator.opened) i.transfers i'.transfers × (a' ≡ a)
    × UnitHoldingsAre held held' (λ s. if have_unit new_transfer.content.units s then option_map (reserved new_transfer.id) (map.get held.unit_holdings s) else map.get held.unit_holdings s)
Carried (Ask id) i i' a a' held held' = (i'.code ≡ i.code) × (i'.last ≡ i.last) × ChangedAt id (option_map initiator.asked) i.transfers i'.transfers × (a' ≡ a) × (held' ≡ held)
Carried (Conclude id new) i i' a a' held held' =
    (i'.code ≡ i.code) × (i'.last ≡ i.last) × ChangedAt id (option_map (initiator.concluded new)) i.transfers i'.transfers × (a' ≡ a)
    × UnitHoldingsAre held held' (λ s. if same_status new Completed then labels_that (λ unit_holding. not (is_reserved_by id unit_holding)) (map.get held.unit_holdings s) else option_map (released id) (map.get held.unit_holdings s))
Carried (Arrive id new content) i i' a a' held held' =
    (i' ≡ i) × (a'.code ≡ a.code) × ChangedAt id (λ x. Some (record { status = new; content = Some content })) a.transfers a'.transfers × (held' ≡ held)
Carried (Forestall id) i i' a a' held held' =
    (i' ≡ i) × (a'.code ≡ a.code) × ChangedAt id (λ x. Some (record { status = Cancelled; content = None })) a.transfers a'.transfers × (held' ≡ held)
Carried (Complete id) i i' a a' held held' =
    (i' ≡ i) × (a'.code ≡ a.code) × ChangedAt id (option_map (acquirer.finished Completed)) a.transfers a'.transfers × (held'.accounts ≡ held.accounts)
    × ((k : Content) → acquirer.kept_content (map.get a.transfers id) ≡ Some k → (blocks : List Block) × (raws blocks ≡ k.units) × ((s : Serial) → map.get held'.unit_holdings s ≡ option_or (option_map (free_unit_holding k.to_account) (kind_in blocks s)) (map.get held.unit_holdings s)))
Carried (Cancel id) i i' a a' held held' = (i' ≡ i) × (a'.code ≡ a.code) × ChangedAt id (option_map (acquirer.finished Cancelled)) a.transfers a'.transfers × (held' ≡ held)
Carried (effects.OpenAccount account) i i' a a' held held' = (i' ≡ i) × (a' ≡ a) × AccountBecomes account accounts.Open held held'
Carried (effects.CloseAccount account) i i' a a' held held' = (i' ≡ i) × (a' ≡ a) × AccountBecomes account accounts.Closed held held'
