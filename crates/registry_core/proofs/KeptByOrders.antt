-- The tables are readings of the longer history as they were of the shorter one: after an order on an account, after an
-- acknowledgement, and after any effect. They are readings of the empty history too.
use Rattle.std.specs.FinMap as map
use Rattle.std.proofs.Common.{List, None, Option, Some, [], ap, cond, false, refl, subst, sym, true, ℕ, ◌++◌, ◌==◌, ◌∙◌, ◌∷◌, ◌≡◌}
use Rattle.std.specs.Prelude.{if◌then◌else◌, option_map}
use Rattle.std.proofs.lemmas.Bool.{not-false}
use Rattle.units.specs.declared.block.Unit.{Unit as Serial}
use Rattle.units.specs.declared.code.Code.{Code}
use Rattle.units.specs.declared.code.Node.TheVariants.{Registry}
use Rattle.status.specs.Id.{id_cmp}
use Rattle.status.specs.declared.id.TransactionId.{TransactionId}
use Rattle.accounts.specs.declared.unit_holding.AccountStatus.{AccountStatus}
use Rattle.accounts.specs.declared.unit_holding.AccountStatus.TheVariants.{Closed, Open}
use Rattle.wire.specs.declared.input.Input.{Input}
use Rattle.wire.specs.declared.input.Input.TheVariants.{Ack, CloseAccount, OpenAccount}
use Rattle.wire.specs.declared.input.Number.{Number}
use Rattle.scheme.specs.declared.registries.Scheme.{Scheme}
use Rattle.protocol.specs.AtRegistry.{close_refusals, open_refusals, registry_verdict}
use Rattle.protocol.specs.Cores.{AreRecordsOf}
use Rattle.protocol.specs.Deciding.{IsRecorded, recorded_if_room}
use Rattle.protocol.specs.History.{Entry, Transition, is_proposal_order, newest, transitions_of}
use Rattle.protocol.specs.Registries.{has_account}
use Rattle.protocol.specs.Verdict.{history, verdict}
use Rattle.protocol.proofs.TakenIntoRecords.{no_records}
use Rattle.records.specs.Records.{RecordsView}
use Rattle.initiator.specs.Transfers.{InitiatorView}
use Rattle.initiator.specs.declared.transfer.OutgoingTransfer.{OutgoingTransfer}
use Rattle.acquirer.specs.Transfers.{AcquirerView}
use Rattle.registry_core.specs.Effects.{AreEffects, Carried}
use Rattle.registry_core.specs.Kept.{AreKept, IsKept}
use Rattle.protocol.specs.Held.{unit_holding_at, account_status_at}
use Rattle.registry_core.specs.Readings.{foreign_row, is_foreign, is_own, own_row, row_at}
use Rattle.registry_core.specs.declared.tables.Tables.{Tables}
use Rattle.registry_core.proofs.EffectsMayBe.{row_none}
use Rattle.registry_core.specs.declared.effect.RegistryEffect.{RegistryEffect}
use Rattle.registry_core.specs.declared.effect.RegistryEffect.TheVariants as effects
use Rattle.registry_core.proofs.KeptByMoves.{entry, kept_moved, kept_recorded, rows_same}
use Rattle.safety.proofs.OneRegistry.RecordedEntries.{recorded_causes}
use Rattle.safety.proofs.OneRegistry.StatusesOfAccounts.{is_request_order, proposals_kept, requested_kept, account_status_closed, account_status_kept, account_status_opened}

entered_so : (scheme : Scheme) (c : Code) (es : List Entry) (input : Input) (xs : List Transition) → verdict scheme (Registry c) es input ≡ IsRecorded xs → registry_verdict scheme c es input ≡ IsRecorded xs
unfolding verdict
entered_so scheme c es input xs h = h

module _ (scheme : Scheme) (c : Code) (es : List Entry) (tables tables' : Tables) (kept : AreKept scheme c es tables) where
  -- one record more without a transition
  unmoved_kept : (input : Input) → is_request_order input ≡ false → is_proposal_order input ≡ false → tables'.initiator ≡ tables.initiator → tables'.acquirer ≡ tables.acquirer
      → tables'.holdings.unit_holdings ≡ tables.holdings.unit_holdings → ((n : ℕ) → map.get tables'.holdings.accounts n ≡ account_status_at scheme c (entry input [] ∷ es) n)
      → AreKept scheme c (entry input [] ∷ es) tables'
  unmoved_kept input asks proposes initiating acquiring unit_holdings accounts =
      let e = entry input [] in
      let read : (TransactionId → Transition → OutgoingTransfer) → TransactionId → Option OutgoingTransfer = λ row t. row_at (is_own c) row (transitions_of es) t in
      record {
        unit_holdings = λ s. ap (λ m. map.get m s) unit_holdings ∙ kept.unit_holdings s;
        accounts = accounts;
        initiator = ap (λ (i : InitiatorView). i.code) initiating ∙ kept.initiator;
        last = ap (λ (i : InitiatorView). i.last) initiating ∙ kept.last ∙ sym (proposals_kept e es proposes);
        own = λ t.
            ap (λ (i : InitiatorView). map.get i.transfers t) initiating
            ∙ kept.own t
            ∙ ap (λ (row : Transition → OutgoingTransfer). cond (is_own c t) (option_map row (newest (transitions_of es) t)) None) (sym (rows_same es (e ∷ es) t (requested_kept e es asks t)));
        acquirer = ap (λ (a : AcquirerView). a.code) acquiring ∙ kept.acquirer;
        foreign = λ t. ap (λ (a : AcquirerView). map.get a.transfers t) acquiring ∙ kept.foreign t;
      }

  opened_account : (account : Number) → has_account scheme c account.value ≡ true → tables'.initiator ≡ tables.initiator → tables'.acquirer ≡ tables.acquirer → tables'.holdings.unit_holdings ≡ tables.holdings.unit_holdings
      → ((n : ℕ) → map.get tables'.holdings.accounts n ≡ (if n == account.value then Some Open else map.get tables.holdings.accounts n))
      → AreKept scheme c (entry (OpenAccount account) [] ∷ es) tables'
  opened_account account there initiating acquiring unit_holdings accounts =
      unmoved_kept (OpenAccount account) refl refl initiating acquiring unit_holdings
      (λ n. accounts n ∙ ap (λ (o : Option AccountStatus). if n == account.value then Some Open else o) (kept.accounts n) ∙ sym (account_status_opened scheme c es (entry (OpenAccount account) []) account refl there n))

  closed_account : (account : Number) → has_account scheme c account.value ≡ true → tables'.initiator ≡ tables.initiator → tables'.acquirer ≡ tables.acquirer → tables'.holdings.unit_holdings ≡ tables.holdings.unit_holdings
      → ((n : ℕ) → map.get tables'.holdings.accounts n ≡ (if n == account.value then Some Closed else map.get tables.holdings.accounts n))
      → AreKept scheme c (entry (CloseAccount account) [] ∷ es) tables'
  closed_account account there initiating acquiring unit_holdings accounts =
      unmoved_kept (CloseAccount account) refl refl initiating acquiring unit_holdings
      (λ n. accounts n ∙ ap (λ (o : Option AccountStatus). if n == account.value then Some Closed else o) (kept.accounts n) ∙ sym (account_status_closed scheme c es (entry (CloseAccount account) []) account refl there n))

  acknowledged : (key : Number) → tables'.initiator ≡ tables.initiator → tables'.acquirer ≡ tables.acquirer → tables'.holdings ≡ tables.holdings
      → AreKept scheme c (entry (Ack key) [] ∷ es) tables'
  acknowledged key initiating acquiring held =
      unmoved_kept (Ack key) refl refl initiating acquiring (ap (λ h. h.unit_holdings) held)
      (λ n. ap (λ h. map.get h.accounts n) held ∙ kept.accounts n ∙ sym (account_status_kept scheme c es (entry (Ack key) []) refl n))

-- ---- of the tables

pub kept_opened : (scheme : Scheme) (c : Code) (tables tables' : Tables) (account : Number) → IsKept scheme c tables → verdict scheme (Registry c) (history scheme (Registry c) tables.records.inputs) (OpenAccount account) ≡ IsRecorded []
    → tables'.initiator ≡ tables.initiator → tables'.acquirer ≡ tables.acquirer → tables'.holdings.unit_holdings ≡ tables.holdings.unit_holdings
    → ((n : ℕ) → map.get tables'.holdings.accounts n ≡ (if n == account.value then Some Open else map.get tables.holdings.accounts n)) → tables'.records.inputs ≡ tables.records.inputs ++ OpenAccount account ∷ [] → AreKept scheme c (history scheme (Registry c) tables'.records.inputs) tables'
kept_opened scheme c tables tables' account kept entered initiating acquiring unit_holdings accounts journal =
    let es = history scheme (Registry c) tables.records.inputs in
    let none = recorded_causes (open_refusals scheme c es account.value) (recorded_if_room scheme es []) [] (entered_so scheme c es (OpenAccount account) [] entered) in
    kept_recorded scheme c tables tables' (OpenAccount account) [] entered journal
    (opened_account scheme c es tables tables' kept.kept account (not-false (has_account scheme c account.value) none.0) initiating acquiring unit_holdings accounts)

pub kept_closed : (scheme : Scheme) (c : Code) (tables tables' : Tables) (account : Number) → IsKept scheme c tables → verdict scheme (Registry c) (history scheme (Registry c) tables.records.inputs) (CloseAccount account) ≡ IsRecorded []
    → tables'.initiator ≡ tables.initiator → tables'.acquirer ≡ tables.acquirer → tables'.holdings.unit_holdings ≡ tables.holdings.unit_holdings
    → ((n : ℕ) → map.get tables'.holdings.accounts n ≡ (if n == account.value then Some Closed else map.get tables.holdings.accounts n)) → tables'.records.inputs ≡ tables.records.inputs ++ CloseAccount account ∷ [] → AreKept scheme c (history scheme (Registry c) tables'.records.inputs) tables'
kept_closed scheme c tables tables' account kept entered initiating acquiring unit_holdings accounts journal =
    let es = history scheme (Registry c) tables.records.inputs in
    let none = recorded_causes (close_refusals scheme c es account.value) (recorded_if_room scheme es []) [] (entered_so scheme c es (CloseAccount account) [] entered) in
    kept_recorded scheme c tables tables' (CloseAccount account) [] entered journal
    (closed_account scheme c es tables tables' kept.kept account (not-false (has_account scheme c account.value) none.0) initiating acquiring unit_holdings accounts)

pub kept_acknowledged : (scheme : Scheme) (c : Code) (tables tables' : Tables) (key : Number) → IsKept scheme c tables → verdict scheme (Registry c) (history scheme (Registry c) tables.records.inputs) (Ack key) ≡ IsRecorded []
    → tables'.initiator ≡ tables.initiator → tables'.acquirer ≡ tables.acquirer → tables'.holdings ≡ tables.holdings → tables'.records.inputs ≡ tables.records.inputs ++ Ack key ∷ [] → AreKept scheme c (history scheme (Registry c) tables'.records.inputs) tables'
kept_acknowledged scheme c tables tables' key kept entered initiating acquiring held journal =
    let es = history scheme (Registry c) tables.records.inputs in
    kept_recorded scheme c tables tables' (Ack key) [] entered journal (acknowledged scheme c es tables tables' kept.kept key initiating acquiring held)

-- ---- any effect

pub kept_carried : (scheme : Scheme) (c : Code) (tables tables' : Tables) (input : Input) (xs : List Transition) (effect : RegistryEffect) → IsKept scheme c tables
    → verdict scheme (Registry c) (history scheme (Registry c) tables.records.inputs) input ≡ IsRecorded xs → AreEffects c (history scheme (Registry c) tables.records.inputs) input xs effect
    → Carried effect tables.initiator tables'.initiator tables.acquirer tables'.acquirer tables.holdings tables'.holdings → tables'.records.inputs ≡ tables.records.inputs ++ input ∷ []
    → AreKept scheme c (history scheme (Registry c) tables'.records.inputs) tables'
kept_carried scheme c tables tables' (OpenAccount account) [] (effects.OpenAccount n) kept enters h carried journal =
    kept_opened scheme c tables tables' account kept enters carried.0 carried.1 carried.2.0 (subst (λ k. (m : ℕ) → map.get tables'.holdings.accounts m ≡ (if m == k then Some Open else map.get tables.holdings.accounts m)) (sym h) carried.2.1) journal
kept_carried scheme c tables tables' (CloseAccount account) [] (effects.CloseAccount n) kept enters h carried journal =
    kept_closed scheme c tables tables' account kept enters carried.0 carried.1 carried.2.0 (subst (λ k. (m : ℕ) → map.get tables'.holdings.accounts m ≡ (if m == k then Some Closed else map.get tables.holdings.accounts m)) (sym h) carried.2.1) journal
kept_carried scheme c tables tables' input (x ∷ []) effect kept enters h carried journal = kept_moved scheme c tables tables' input x effect kept enters h carried journal
kept_carried scheme c tables tables' input xs effect kept enters h carried journal = absurd h

-- ---- no record at all

pub kept_opening : (scheme : Scheme) (c : Code) (tables : Tables) → tables.records ≡ record { inputs = []; sent = [] } → ((s : Serial) → map.get tables.holdings.unit_holdings s ≡ unit_holding_at scheme c [] s)
    → ((n : ℕ) → map.get tables.holdings.accounts n ≡ account_status_at scheme c [] n) → tables.initiator ≡ record { code = c; last = 0; transfers = map.empty } → tables.acquirer ≡ record { code = c; transfers = map.empty }
    → IsKept scheme c tables
kept_opening scheme c tables none unit_holdings accounts initiating acquiring =
    record {
      records = subst (λ (q : RecordsView). AreRecordsOf scheme (Registry c) q.inputs q) (sym none) (no_records scheme (Registry c));
      kept = subst (λ (q : RecordsView). AreKept scheme c (history scheme (Registry c) q.inputs) tables) (sym none) (record {
        unit_holdings = unit_holdings;
        accounts = accounts;
        initiator = ap (λ (i : InitiatorView). i.code) initiating;
        last = ap (λ (i : InitiatorView). i.last) initiating;
        own = λ t. ap (λ (i : InitiatorView). map.get i.transfers t) initiating ∙ map.get-empty id_cmp t ∙ sym (row_none (is_own c) (own_row []) [] t refl);
        acquirer = ap (λ (a : AcquirerView). a.code) acquiring;
        foreign = λ t. ap (λ (a : AcquirerView). map.get a.transfers t) acquiring ∙ map.get-empty id_cmp t ∙ sym (row_none (is_foreign c) foreign_row [] t refl);
      });
    }
