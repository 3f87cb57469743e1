-- The effect that a recorded input asks for may be carried out: a new transaction has no row yet, and a completed one
-- can be credited.
use Rattle.std.specs.FinMap as map
use Rattle.std.proofs.Common.{Bool, List, None, Option, Some, [], ap, cond, false, inl, not, refl, subst, sym, true, ◌∙◌, ◌∷◌, ◌≡◌}
use Rattle.std.specs.Prelude.{option_map}
use Rattle.std.proofs.lemmas.Bool.{cond-true, not-true}
use Rattle.units.specs.Code.{same_code}
use Rattle.units.specs.declared.code.Code.{Code}
use Rattle.units.specs.declared.code.Node.TheVariants.{Registry}
use Rattle.status.specs.Content.{Content}
use Rattle.status.specs.Status.{same_status}
use Rattle.status.specs.declared.id.TransactionId.{TransactionId}
use Rattle.status.specs.declared.status.Status.{Status}
use Rattle.status.specs.declared.status.Status.TheVariants.{Cancelled, Completed}
use Rattle.checks.specs.declared.order.NewTransfer.{NewTransfer}
use Rattle.wire.specs.NotifiedStatuses.{notified_status}
use Rattle.wire.specs.declared.input.Input.{Input}
use Rattle.scheme.specs.declared.registries.Scheme.{Scheme}
use Rattle.protocol.specs.AtRegistry.{holds_some}
use Rattle.protocol.specs.Deciding.{IsRecorded}
use Rattle.protocol.specs.History.{Entry, Transition, messages_of, newest, transitions_of}
use Rattle.protocol.specs.Verdict.{history, transitions_made, verdict}
use Rattle.acquirer.specs.Crediting.{MayCredit}
use Rattle.acquirer.specs.Transfers as acquirer
use Rattle.units.proofs.Lists.FirstIndices.{none_from_test}
use Rattle.units.proofs.Lists.Membership.{In}
use Rattle.units.proofs.Lists.OneValue.{clash}
use Rattle.safety.proofs.MovesAndHistories.TableMoves.{RegistryMove, arrives, asks, bares, finishes, proposes, registry_moves, concludes}
use Rattle.safety.proofs.MovesAndHistories.TableRows.{acquirer_from}
use Rattle.safety.proofs.OneRegistry.UnitsCountedOnce.{and_second}
use Rattle.registry_core.specs.Effects.{AreEffects, IsEffect, IsAllowed, MayCarry}
use Rattle.registry_core.specs.Kept.{AreKept, IsKept}
use Rattle.registry_core.specs.Readings.{foreign_row, is_foreign, is_own, own_row, row_at}
use Rattle.registry_core.specs.declared.effect.RegistryEffect.{RegistryEffect}
use Rattle.wire.specs.declared.input.Input.TheVariants.{Ack, CleanUp, CloseAccount, Eligible, OpenAccount, Propose, Received, Request}
use Rattle.records.specs.Sending.{Sends}
use Rattle.protocol.specs.Outgoing.{did}
use Rattle.registry_core.specs.declared.effect.RegistryEffect.TheVariants as effects
use Rattle.registry_core.specs.declared.effect.RegistryEffect.TheVariants.{Arrive, Ask, Cancel, Complete, Forestall, Open, Conclude}
use Rattle.registry_core.specs.declared.tables.Tables.{Tables}
use Rattle.safety.proofs.OneRegistry.ApartContents.{awaited_apart}
use Rattle.safety.proofs.OneRegistry.UnitHoldingsAfterMoves.{units_absent}
use Rattle.registry_core.proofs.OpenReceivers.{receivers_open}
use Rattle.safety.proofs.OneRegistry.RecordedEntries.{Entered, entered_made, replays_entered}

-- what is recorded is a case of the tables
pub entered_move : (scheme : Scheme) (c : Code) (es : List Entry) (input : Input) (x : Transition) → verdict scheme (Registry c) es input ≡ IsRecorded (x ∷ []) → RegistryMove scheme c es input x
unfolding verdict
entered_move scheme c es input x e = registry_moves scheme c es input x (subst (In x) (sym (ap transitions_made e)) (inl refl))

-- a transaction that isn't known has no row
pub row_none : {R : Type 0} (keep : TransactionId → Bool) (row : TransactionId → Transition → R) (xs : List Transition) (t : TransactionId) → newest xs t ≡ None → row_at keep row xs t ≡ None
row_none {R} keep row xs t e = ap (λ (o : Option Transition). cond (keep t) (option_map (row t) o) None) e ∙ go (keep t)
  where
    go : (b : Bool) → cond b (option_map (row t) None) None ≡ None
    go true = refl
    go false = refl

-- the transaction is of another registry
pub foreign_of : (c : Code) (t : TransactionId) → is_foreign c t ≡ true → same_code t.code c ≡ false
foreign_of c t h = not-true (same_code t.code c) h

module _ (scheme : Scheme) (c : Code) (es : List Entry) (tables : Tables) (kept : AreKept scheme c es tables) (entered : Entered scheme c es) where
  new_own : (t : TransactionId) → newest (transitions_of es) t ≡ None → map.get tables.initiator.transfers t ≡ None
  new_own t e = kept.own t ∙ row_none (is_own c) (own_row es) (transitions_of es) t e

  new_foreign : (t : TransactionId) → newest (transitions_of es) t ≡ None → map.get tables.acquirer.transfers t ≡ None
  new_foreign t e = kept.foreign t ∙ row_none (is_foreign c) foreign_row (transitions_of es) t e

  -- the content of a row
  pub row_content : (t : TransactionId) (q : Transition) → newest (transitions_of es) t ≡ Some q → same_code t.code c ≡ false → acquirer.kept_content (map.get tables.acquirer.transfers t) ≡ q.content
  row_content t q was other =
      ap acquirer.kept_content
      (kept.foreign t
      ∙ cond-true (not (same_code t.code c)) (option_map (foreign_row t) (newest (transitions_of es) t)) None (ap not other)
      ∙ ap (option_map (foreign_row t)) was)

  open_may : (input : Input) (x : Transition) (new_transfer : NewTransfer) → RegistryMove scheme c es input x → IsEffect c es input x (Open new_transfer) → map.get tables.initiator.transfers new_transfer.id ≡ None
  open_may input x new_transfer (proposes o t none is fresh) h = new_own new_transfer.id (subst (λ u. newest (transitions_of es) u ≡ None) h.0 fresh)
  open_may input x new_transfer (asks t q was own stood) h = absurd h
  open_may input x new_transfer (arrives p moment found f s is none foreign mine) h = absurd h
  open_may input x new_transfer (bares n moment f cancelled none foreign) h = absurd h
  open_may input x new_transfer (concludes n moment q new f was own move) h = absurd h
  open_may input x new_transfer (finishes n moment q new f was foreign move none) h = absurd h

  arrive_may : (input : Input) (x : Transition) (id : TransactionId) (told : Status) (content : Content) → RegistryMove scheme c es input x → IsEffect c es input x (Arrive id told content) → map.get tables.acquirer.transfers id ≡ None
  arrive_may input x id told content (arrives p moment found f s is none foreign mine) h = new_foreign id (subst (λ u. newest (transitions_of es) u ≡ None) h.0 none)
  arrive_may input x id told content (proposes o t none is fresh) h = absurd h
  arrive_may input x id told content (asks t q was own stood) h = absurd h
  arrive_may input x id told content (bares n moment f cancelled none foreign) h = absurd h
  arrive_may input x id told content (concludes n moment q new f was own move) h = absurd h
  arrive_may input x id told content (finishes n moment q new f was foreign move none) h = absurd h

  forestall_may : (input : Input) (x : Transition) (id : TransactionId) → RegistryMove scheme c es input x → IsEffect c es input x (Forestall id) → map.get tables.acquirer.transfers id ≡ None
  forestall_may input x id (bares n moment f cancelled none foreign) h = new_foreign id (none_from_test (newest (transitions_of es) id) h.1)
  forestall_may input x id (concludes n moment q new f was own move) h = new_foreign id (none_from_test (newest (transitions_of es) id) h.1)
  forestall_may input x id (finishes n moment q new f was foreign move none) h = new_foreign id (none_from_test (newest (transitions_of es) id) h.1)
  forestall_may input x id (proposes o t none is fresh) h = absurd h
  forestall_may input x id (asks t q was own stood) h = absurd h
  forestall_may input x id (arrives p moment found f s is none foreign mine) h = absurd h

  complete_may : (input : Input) (x : Transition) (id : TransactionId) → RegistryMove scheme c es input x → IsEffect c es input x (Complete id) → (k : Content) → acquirer.kept_content (map.get tables.acquirer.transfers id) ≡ Some k
      → MayCredit tables.holdings k
  complete_may input x id (finishes n moment q new f was foreign move none) h k known =
      let here : newest (transitions_of es) id ≡ Some q = subst (λ u. newest (transitions_of es) u ≡ Some q) h.0 was in
      let other = foreign_of c id h.2 in
      let content : q.content ≡ Some k = sym (row_content id q here other) ∙ known in
      let accepted = (acquirer_from q.new (notified_status n.notified) new move).0 in
      let free = and_second (same_status new Completed) (holds_some scheme c (transitions_of es) q.content) none (ap (λ z. same_status z Completed) h.1) in
      record {
        open_account = kept.accounts k.to_account ∙ receivers_open scheme c es entered id q k here other accepted content;
        apart = λ blocks units. awaited_apart scheme c es id q k blocks (entered_made scheme c es entered) here other content units;
        absent = λ s y. kept.unit_holdings s ∙ units_absent scheme c (transitions_of es) k (ap (holds_some scheme c (transitions_of es)) (sym content) ∙ free) s y;
      }
  complete_may input x id (bares n moment f cancelled none foreign) h k known = let e : Cancelled ≡ Completed = h.1 in absurd (cc (e))
  complete_may input x id (concludes n moment q new f was own move) h k known =
      clash (same_code id.code c) (subst (λ (u : TransactionId). same_code u.code c ≡ true) h.0 own) (foreign_of c id h.2)
  complete_may input x id (proposes o t none is fresh) h k known = absurd h
  complete_may input x id (asks t q was own stood) h k known = absurd h
  complete_may input x id (arrives p moment found f s is none foreign mine) h k known = absurd h

  pub move_may : (input : Input) (x : Transition) (effect : RegistryEffect) → RegistryMove scheme c es input x → IsEffect c es input x effect → IsAllowed effect tables.holdings → MayCarry effect tables.initiator tables.acquirer tables.holdings
  move_may input x (Open new_transfer) move h free = (open_may input x new_transfer move h, free)
  move_may input x (Arrive id new content) move h free = arrive_may input x id new content move h
  move_may input x (Forestall id) move h free = forestall_may input x id move h
  move_may input x (Complete id) move h free = complete_may input x id move h
  move_may input x (Ask id) move h free = tt
  move_may input x (Conclude id new) move h free = tt
  move_may input x (Cancel id) move h free = tt
  move_may input x (effects.OpenAccount account) move h free = free
  move_may input x (effects.CloseAccount account) move h free = free

pub may_carry : (scheme : Scheme) (c : Code) (tables : Tables) (input : Input) (xs : List Transition) (effect : RegistryEffect) → IsKept scheme c tables → verdict scheme (Registry c) (history scheme (Registry c) tables.records.inputs) input ≡ IsRecorded xs
    → AreEffects c (history scheme (Registry c) tables.records.inputs) input xs effect → IsAllowed effect tables.holdings → MayCarry effect tables.initiator tables.acquirer tables.holdings
may_carry scheme c tables (OpenAccount account) [] (effects.OpenAccount n) kept enters h free = free
may_carry scheme c tables (CloseAccount account) [] (effects.CloseAccount n) kept enters h free = free
may_carry scheme c tables input (x ∷ []) effect kept enters h free =
    let es = history scheme (Registry c) tables.records.inputs in
    move_may scheme c es tables kept.kept (replays_entered scheme c tables.records.inputs kept.records.replays) input x effect (entered_move scheme c es input x enters) h free
may_carry scheme c tables input xs effect kept enters h free = absurd h

-- an input that has an effect is no acknowledgement, and sends what its transitions say
pub effects_send : (c : Code) (es : List Entry) (input : Input) (xs : List Transition) (effect : RegistryEffect) → AreEffects c es input xs effect → did input (messages_of xs) ≡ Sends (messages_of xs)
effects_send c es (Ack key) [] effect h = absurd h
effects_send c es (Ack key) (x ∷ []) effect h = absurd h
effects_send c es (Ack key) (x ∷ y ∷ xs) effect h = absurd h
effects_send c es (Propose o) xs effect h = refl
effects_send c es (Request t) xs effect h = refl
effects_send c es (OpenAccount n) xs effect h = refl
effects_send c es (CloseAccount n) xs effect h = refl
effects_send c es (CleanUp t) xs effect h = refl
effects_send c es (Eligible d may) xs effect h = refl
effects_send c es (Received m t) xs effect h = refl
