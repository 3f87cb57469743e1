-- The tables are readings of the longer history as they were of the shorter one: after one record more that makes a
-- transition, once its effect is carried out.
use Rattle.std.specs.FinMap as map
use Rattle.std.proofs.Common.{Bool, List, None, Option, Some, [], ap, cond, false, inl, inr, not, refl, subst, sym, true, ℕ, ◌&&◌, ◌++◌, ◌+◌, ◌||◌, ◌∙◌, ◌∷◌, ◌≡◌}
use Rattle.std.specs.Prelude.{if◌then◌else◌, option_map, is_some}
use Rattle.std.specs.Option.{option_or}
use Rattle.units.specs.Code.{same_code}
use Rattle.units.specs.Intervals.{labels_that}
use Rattle.units.specs.Unit.{have_unit}
use Rattle.units.specs.declared.code.Code.{Code}
use Rattle.units.specs.declared.code.Node.TheVariants.{Registry}
use Rattle.status.proofs.Ids.{id_at-number, same_id-refl}
use Rattle.status.specs.Content.{Content}
use Rattle.status.specs.Id.{id_at, same_id}
use Rattle.status.specs.Order.{Order}
use Rattle.status.specs.Rows.{acquirer_row, initiator_row}
use Rattle.status.specs.Status.{same_status}
use Rattle.status.specs.declared.id.TransactionId.{TransactionId}
use Rattle.status.specs.declared.moment.Moment.{Moment}
use Rattle.status.specs.declared.rows.RecordedStatus.TheVariants.{Stands}
use Rattle.status.specs.declared.rows.Row.TheVariants.{Move}
use Rattle.status.specs.declared.rows.RowInput.TheVariants.{Notified}
use Rattle.status.specs.declared.status.Status.{Status}
use Rattle.status.specs.declared.status.Status.TheVariants.{Accepted, Cancelled, Completed, Proposed}
use Rattle.accounts.specs.Holdings.{free_unit_holding, is_reserved_by, kind_in, released, reserved}
use Rattle.accounts.specs.declared.unit_holding.UnitHolding.{UnitHolding}
use Rattle.checks.specs.declared.order.NewTransfer.{NewTransfer}
use Rattle.wire.specs.NotifiedStatuses.{notified_status}
use Rattle.wire.specs.declared.input.Input.{Input}
use Rattle.wire.specs.declared.input.Input.TheVariants.{Propose, Received, Request}
use Rattle.protocol.proofs.MessageForms as message
use Rattle.protocol.proofs.MessageForms.{ProposalMessage, NotificationMessage}
use Rattle.scheme.specs.declared.registries.Scheme.{Scheme}
use Rattle.protocol.proofs.Histories.{history_recorded}
use Rattle.protocol.specs.AtRegistry.{content_of, holding, holds_some}
use Rattle.protocol.specs.Checks.{propose_refusals}
use Rattle.protocol.specs.Deciding.{IsRecorded}
use Rattle.protocol.specs.History.{Entry, Transition, is_known, is_requested, newest, proposals, transitions_of}
use Rattle.protocol.specs.Verdict.{history, verdict}
use Rattle.initiator.specs.Transfers as initiator
use Rattle.initiator.specs.Transfers.{InitiatorView}
use Rattle.initiator.specs.declared.transfer.Cancellation.TheVariants.{Asked, NotAsked}
use Rattle.initiator.specs.declared.transfer.OutgoingTransfer.{OutgoingTransfer}
use Rattle.acquirer.specs.Transfers as acquirer
use Rattle.acquirer.specs.Transfers.{AcquirerView}
use Rattle.acquirer.specs.declared.transfer.IncomingTransfer.{IncomingTransfer}
use Rattle.safety.proofs.MovesAndHistories.NewestTransitions.{Made, newest_id}
use Rattle.safety.proofs.MovesAndHistories.TableMoves.{NoneStands, RegistryMove, arrives, asks, bares, finishes, proposes, concludes}
use Rattle.safety.proofs.MovesAndHistories.TableRows.{acquirer_from}
use Rattle.safety.proofs.MovesAndHistories.TransitionForms.{arrived, asking, bare, moved, proposed, concluded_messages}
use Rattle.safety.proofs.OneRegistry.TransactionEnds.{known, own_code}
use Rattle.units.proofs.Lists.OneValue.{clash, one_some}
use Rattle.registry_core.specs.Effects.{Carried, ChangedAt, IsEffect}
use Rattle.registry_core.specs.Kept.{AreKept, IsKept}
use Rattle.protocol.specs.Held.{account_status_at}
use Rattle.registry_core.specs.Readings.{foreign_row, is_foreign, is_own, own_row, row_at}
use Rattle.registry_core.specs.declared.effect.RegistryEffect.{RegistryEffect}
use Rattle.registry_core.specs.declared.effect.RegistryEffect.TheVariants as effects
use Rattle.registry_core.specs.declared.effect.RegistryEffect.TheVariants.{Arrive, Ask, Cancel, Complete, Forestall, Open, Conclude}
use Rattle.registry_core.specs.declared.tables.Tables.{Tables}
use Rattle.registry_core.proofs.EffectsMayBe.{entered_move, foreign_of, row_content}
use Rattle.safety.proofs.OneRegistry.UnitHoldingsAfterMoves.{unit_holding_arrived, unit_holding_asked, unit_holding_bare, unit_holding_credited, unit_holding_proposed, unit_holding_concluded, unit_holding_unmoved}
use Rattle.registry_core.proofs.NewestById.{row_changed, row_kept, row_put}
use Rattle.safety.proofs.OneRegistry.RecordedEntries.{Entered, entered_made, replays_entered}
use Rattle.registry_core.proofs.RequestedTransfers.{unknown_unrequested}
use Rattle.safety.proofs.OneRegistry.StatusesOfAccounts.{is_account_order, is_request_order, proposals_kept, proposals_more, requested_kept, requested_more, account_status_kept}

-- one record more
abbrev pub entry : Input → List Transition → Entry
entry input xs = record { input = input; transitions = xs }

pub kept_recorded : (scheme : Scheme) (c : Code) (tables tables' : Tables) (input : Input) (xs : List Transition) → verdict scheme (Registry c) (history scheme (Registry c) tables.records.inputs) input ≡ IsRecorded xs
    → tables'.records.inputs ≡ tables.records.inputs ++ input ∷ [] → AreKept scheme c (entry input xs ∷ history scheme (Registry c) tables.records.inputs) tables' → AreKept scheme c (history scheme (Registry c) tables'.records.inputs) tables'
kept_recorded scheme c tables tables' input xs enters journal more =
    subst (λ (hs : List Entry). AreKept scheme c hs tables') (sym (ap (history scheme (Registry c)) journal ∙ history_recorded scheme (Registry c) tables.records.inputs input xs enters)) more

-- a row with the status and whether its cancellation was asked for
abbrev own_with : Status → Bool → OutgoingTransfer
own_with status b = record { status = status; cancellation = cond b Asked NotAsked }

pub rows_same : (es hs : List Entry) (t : TransactionId) → is_requested hs t ≡ is_requested es t → own_row hs t ≡ own_row es t
rows_same es hs t e = let row : Bool → Transition → OutgoingTransfer = λ b x. own_with x.new b in ap row e

cancelled_open : (told : Status) → told ≡ Cancelled → told ≡ Completed → ⊥
cancelled_open told status done = let e : Cancelled ≡ Completed = sym status ∙ done in cc (e)

module _ (scheme : Scheme) (c : Code) (es : List Entry) (tables tables' : Tables) (kept : AreKept scheme c es tables) (entered : Entered scheme c es) where
  made_so : Made scheme (Registry c) es
  made_so = entered_made scheme c es entered

  accounts_so : (e : Entry) → is_account_order e.input ≡ false → tables'.holdings.accounts ≡ tables.holdings.accounts → (n : ℕ) → map.get tables'.holdings.accounts n ≡ account_status_at scheme c (e ∷ es) n
  accounts_so e other same n = ap (λ a. map.get a n) same ∙ kept.accounts n ∙ sym (account_status_kept scheme c es e other n)

  -- the other role's table stays as it is
  own_stays : (e : Entry) (x : Transition) → is_request_order e.input ≡ false → same_code x.id.code c ≡ false → tables'.initiator ≡ tables.initiator → (t : TransactionId)
      → map.get tables'.initiator.transfers t ≡ row_at (is_own c) (own_row (e ∷ es)) (x ∷ transitions_of es) t
  own_stays e x other foreign same t =
      ap (λ (i : InitiatorView). map.get i.transfers t) same
      ∙ kept.own t
      ∙ row_kept (is_own c) (own_row es) (own_row (e ∷ es)) x (transitions_of es) (λ u k d. rows_same es (e ∷ es) u (requested_kept e es other u)) foreign t

  foreign_stays : (x : Transition) → same_code x.id.code c ≡ true → tables'.acquirer ≡ tables.acquirer → (t : TransactionId)
      → map.get tables'.acquirer.transfers t ≡ row_at (is_foreign c) foreign_row (x ∷ transitions_of es) t
  foreign_stays x own same t =
      ap (λ (a : AcquirerView). map.get a.transfers t) same ∙ kept.foreign t ∙ row_kept (is_foreign c) foreign_row foreign_row x (transitions_of es) (λ u k d. refl) (ap not own) t

  -- ---- a transfer out of the registry

  opened_kept : (o : Order) (t : TransactionId) (new_transfer : NewTransfer) → NoneStands (propose_refusals scheme c (holding scheme c es) o) → id_at c (proposals es + 1) ≡ Some t → newest (transitions_of es) t ≡ None
      → t ≡ new_transfer.id → content_of o ≡ new_transfer.content → Carried (Open new_transfer) tables.initiator tables'.initiator tables.acquirer tables'.acquirer tables.holdings tables'.holdings → AreKept scheme c (entry (Propose o) (proposed c t (content_of o) ∷ []) ∷ es) tables'
  opened_kept o t new_transfer none is fresh id content carried =
      let x = proposed c t (content_of o) in
      let e = entry (Propose o) (x ∷ []) in
      let own = own_code scheme c (proposals es + 1) t is in
      let changed = subst (λ u. ChangedAt u (λ (y : Option OutgoingTransfer). Some initiator.opened) tables.initiator.transfers tables'.initiator.transfers) (sym id) carried.2 in
      let row : initiator.opened ≡ own_row (e ∷ es) t x = ap (own_with Proposed) (sym (requested_kept e es refl t ∙ unknown_unrequested scheme c es entered t fresh)) in
      let back = sym id in
      let units = sym content in
      record {
        unit_holdings = λ s.
            carried.4.1 s
            ∙ (λ i. if have_unit (units i).units s then option_map (reserved (back i)) (kept.unit_holdings s i) else kept.unit_holdings s i)
            ∙ sym (unit_holding_proposed scheme c es made_so o t none is fresh s);
        accounts = accounts_so e refl carried.4.0;
        initiator = carried.0 ∙ kept.initiator;
        last = carried.1 ∙ ap (λ (u : TransactionId). u.number) back ∙ id_at-number c (proposals es + 1) t is ∙ sym (proposals_more e es o refl);
        own = row_put (is_own c) (own_row es) (own_row (e ∷ es)) x (transitions_of es) (λ u k d. rows_same es (e ∷ es) u (requested_kept e es refl u)) (map.get tables.initiator.transfers) (map.get tables'.initiator.transfers) own
            kept.own (λ u. changed u ∙ ap (λ (r : OutgoingTransfer). if same_id t u then Some r else map.get tables.initiator.transfers u) row);
        acquirer = ap (λ (a : AcquirerView). a.code) carried.3 ∙ kept.acquirer;
        foreign = foreign_stays x own carried.3;
      }

  asked_kept : (t : TransactionId) (q : Transition) (id : TransactionId) → newest (transitions_of es) t ≡ Some q → same_code t.code c ≡ true → q.new ≡ Proposed → t ≡ id
      → Carried (Ask id) tables.initiator tables'.initiator tables.acquirer tables'.acquirer tables.holdings tables'.holdings
      → AreKept scheme c (entry (Request t) (asking c q ∷ []) ∷ es) tables'
  asked_kept t q id was own stood same carried =
      let x = asking c q in
      let e = entry (Request t) (x ∷ []) in
      let about : q.id ≡ t = (newest_id (transitions_of es) t q was).1 in
      let mine : same_code q.id.code c ≡ true = ap (λ (u : TransactionId). same_code u.code c) about ∙ own in
      let changed = subst (λ u. ChangedAt u (option_map initiator.asked) tables.initiator.transfers tables'.initiator.transfers) (sym (about ∙ same)) carried.2 in
      let named : same_id t q.id ≡ true = subst (λ u. same_id t u ≡ true) (sym about) (same_id-refl t) in
      let requested : is_requested (e ∷ es) q.id ≡ true = requested_more e es t q.id refl ∙ ap (λ b. b || is_requested es q.id) named in
      let status = sym stood in
      record {
        unit_holdings = λ s. ap (λ h. map.get h.unit_holdings s) carried.4 ∙ kept.unit_holdings s ∙ sym (unit_holding_asked scheme c es made_so t q was own stood s);
        accounts = accounts_so e refl (ap (λ h. h.accounts) carried.4);
        initiator = carried.0 ∙ kept.initiator;
        last = carried.1 ∙ kept.last ∙ sym (proposals_kept e es refl);
        own = row_changed (is_own c) (own_row es) (own_row (e ∷ es)) x (transitions_of es)
            (λ u k d. rows_same es (e ∷ es) u (requested_more e es t u refl ∙ ap (λ b. b || is_requested es u) (subst (λ v. same_id v u ≡ false) about d))) initiator.asked q (map.get tables.initiator.transfers)
            (map.get tables'.initiator.transfers) mine (ap (newest (transitions_of es)) about ∙ was) (λ i. own_with (status i) (requested i)) kept.own changed;
        acquirer = ap (λ (a : AcquirerView). a.code) carried.3 ∙ kept.acquirer;
        foreign = foreign_stays x mine carried.3;
      }

  concluded_kept : (n : NotificationMessage) (moment : Moment) (q : Transition) (told : Status) (id : TransactionId) (new : Status) → newest (transitions_of es) n.id ≡ Some q → same_code n.id.code c ≡ true
      → initiator_row (Stands q.new) (Notified (notified_status n.notified)) ≡ Move told → n.id ≡ id → told ≡ new
      → Carried (Conclude id new) tables.initiator tables'.initiator tables.acquirer tables'.acquirer tables.holdings tables'.holdings
      → AreKept scheme c (entry (Received (message.notification n) moment) (moved q told moment.seconds (concluded_messages c q.id told) ∷ []) ∷ es) tables'
  concluded_kept n moment q told id new was own move same status carried =
      let x = moved q told moment.seconds (concluded_messages c q.id told) in
      let input = Received (message.notification n) moment in
      let e = entry input (x ∷ []) in
      let about : q.id ≡ n.id = (newest_id (transitions_of es) n.id q was).1 in
      let mine : same_code q.id.code c ≡ true = ap (λ (u : TransactionId). same_code u.code c) about ∙ own in
      let changed = subst (λ u. ChangedAt u (option_map (initiator.concluded new)) tables.initiator.transfers tables'.initiator.transfers) (sym (about ∙ same)) carried.2 in
      let requested = requested_kept e es refl q.id in
      let back = sym same in
      let came = sym status in
      record {
        unit_holdings = λ s.
            carried.4.1 s
            ∙ (λ i. if same_status (came i) Completed then labels_that (λ (unit_holding : UnitHolding). not (is_reserved_by (back i) unit_holding)) (kept.unit_holdings s i) else option_map (released (back i)) (kept.unit_holdings s i))
            ∙ sym (unit_holding_concluded scheme c es made_so n.id (notified_status n.notified) q told moment.seconds (concluded_messages c q.id told) was own move s);
        accounts = accounts_so e refl carried.4.0;
        initiator = carried.0 ∙ kept.initiator;
        last = carried.1 ∙ kept.last ∙ sym (proposals_kept e es refl);
        own = row_changed (is_own c) (own_row es) (own_row (e ∷ es)) x (transitions_of es) (λ u k d. rows_same es (e ∷ es) u (requested_kept e es refl u)) (initiator.concluded new) q (map.get tables.initiator.transfers)
            (map.get tables'.initiator.transfers) mine (ap (newest (transitions_of es)) about ∙ was) (λ i. own_with (status i) (requested i)) kept.own changed;
        acquirer = ap (λ (a : AcquirerView). a.code) carried.3 ∙ kept.acquirer;
        foreign = foreign_stays x mine carried.3;
      }

  -- ---- a transfer to the registry

  arrived_kept : (p : ProposalMessage) (moment : Moment) (found : List ℕ) (id : TransactionId) (new : Status) (content : Content) → newest (transitions_of es) p.id ≡ None → same_code p.id.code c ≡ false
      → p.id ≡ id → (arrived c p.id p.content moment.seconds found).new ≡ new → p.content ≡ content
      → Carried (Arrive id new content) tables.initiator tables'.initiator tables.acquirer tables'.acquirer tables.holdings tables'.holdings
      → AreKept scheme c (entry (Received (message.proposal p) moment) (arrived c p.id p.content moment.seconds found ∷ []) ∷ es) tables'
  arrived_kept p moment found id new content none other same status units carried =
      let x = arrived c p.id p.content moment.seconds found in
      let input = Received (message.proposal p) moment in
      let e = entry input (x ∷ []) in
      let changed = subst (λ u. ChangedAt u (λ (y : Option IncomingTransfer). Some (record { status = new; content = Some content })) tables.acquirer.transfers tables'.acquirer.transfers) (sym same) carried.2 in
      let came = sym status in
      let with = sym units in
      let row : ◌≡◌ {A = IncomingTransfer} (record { status = new; content = Some content }) (foreign_row p.id x) = λ i. record { status = came i; content = Some (with i) } in
      record {
        unit_holdings = λ s. ap (λ h. map.get h.unit_holdings s) carried.3 ∙ kept.unit_holdings s ∙ sym (unit_holding_arrived scheme c es made_so p.id p.content moment.seconds found none other s);
        accounts = accounts_so e refl (ap (λ h. h.accounts) carried.3);
        initiator = ap (λ (i : InitiatorView). i.code) carried.0 ∙ kept.initiator;
        last = ap (λ (i : InitiatorView). i.last) carried.0 ∙ kept.last ∙ sym (proposals_kept e es refl);
        own = own_stays e x refl other carried.0;
        acquirer = carried.1 ∙ kept.acquirer;
        foreign = row_put (is_foreign c) foreign_row foreign_row x (transitions_of es) (λ u k d. refl) (map.get tables.acquirer.transfers) (map.get tables'.acquirer.transfers) (ap not other) kept.foreign
            (λ u. changed u ∙ ap (λ (r : IncomingTransfer). if same_id p.id u then Some r else map.get tables.acquirer.transfers u) row);
      }

  forestalled_kept : (n : NotificationMessage) (moment : Moment) (id : TransactionId) → newest (transitions_of es) n.id ≡ None → same_code n.id.code c ≡ false → n.id ≡ id
      → Carried (Forestall id) tables.initiator tables'.initiator tables.acquirer tables'.acquirer tables.holdings tables'.holdings
      → AreKept scheme c (entry (Received (message.notification n) moment) (bare n.id moment.seconds ∷ []) ∷ es) tables'
  forestalled_kept n moment id none other same carried =
      let x = bare n.id moment.seconds in
      let input = Received (message.notification n) moment in
      let e = entry input (x ∷ []) in
      let changed = subst (λ u. ChangedAt u (λ (y : Option IncomingTransfer). Some (record { status = Cancelled; content = None })) tables.acquirer.transfers tables'.acquirer.transfers) (sym same) carried.2 in
      record {
        unit_holdings = λ s. ap (λ h. map.get h.unit_holdings s) carried.3 ∙ kept.unit_holdings s ∙ sym (unit_holding_bare scheme c es made_so n.id moment.seconds none other s);
        accounts = accounts_so e refl (ap (λ h. h.accounts) carried.3);
        initiator = ap (λ (i : InitiatorView). i.code) carried.0 ∙ kept.initiator;
        last = ap (λ (i : InitiatorView). i.last) carried.0 ∙ kept.last ∙ sym (proposals_kept e es refl);
        own = own_stays e x refl other carried.0;
        acquirer = carried.1 ∙ kept.acquirer;
        foreign = row_put (is_foreign c) foreign_row foreign_row x (transitions_of es) (λ u k d. refl) (map.get tables.acquirer.transfers) (map.get tables'.acquirer.transfers) (ap not other) kept.foreign changed;
      }

  -- its end
  ended_foreign : (q : Transition) (t id : TransactionId) (told new : Status) (moment : ℕ) → newest (transitions_of es) t ≡ Some q → same_code t.code c ≡ false → t ≡ id → told ≡ new
      → ChangedAt id (option_map (acquirer.finished new)) tables.acquirer.transfers tables'.acquirer.transfers → (u : TransactionId)
      → map.get tables'.acquirer.transfers u ≡ row_at (is_foreign c) foreign_row (moved q told moment [] ∷ transitions_of es) u
  ended_foreign q t id told new moment was other same status changed =
      let about : q.id ≡ t = (newest_id (transitions_of es) t q was).1 in
      let theirs : same_code q.id.code c ≡ false = ap (λ (u : TransactionId). same_code u.code c) about ∙ other in
      let row : foreign_row q.id (moved q told moment []) ≡ acquirer.finished new (foreign_row q.id q) = λ i. record { status = status i; content = q.content } in
      row_changed (is_foreign c) foreign_row foreign_row (moved q told moment []) (transitions_of es) (λ u k d. refl) (acquirer.finished new) q (map.get tables.acquirer.transfers) (map.get tables'.acquirer.transfers)
      (ap not theirs) (ap (newest (transitions_of es)) about ∙ was) row kept.foreign
      (subst (λ u. ChangedAt u (option_map (acquirer.finished new)) tables.acquirer.transfers tables'.acquirer.transfers) (sym (about ∙ same)) changed)

  cancelled_kept : (n : NotificationMessage) (moment : Moment) (q : Transition) (told : Status) (id : TransactionId) → newest (transitions_of es) n.id ≡ Some q → same_code n.id.code c ≡ false
      → acquirer_row (Stands q.new) (Notified (notified_status n.notified)) ≡ Move told → n.id ≡ id → told ≡ Cancelled
      → Carried (Cancel id) tables.initiator tables'.initiator tables.acquirer tables'.acquirer tables.holdings tables'.holdings
      → AreKept scheme c (entry (Received (message.notification n) moment) (moved q told moment.seconds [] ∷ []) ∷ es) tables'
  cancelled_kept n moment q told id was other move same status carried =
      let x = moved q told moment.seconds [] in
      let input = Received (message.notification n) moment in
      let e = entry input (x ∷ []) in
      let theirs : same_code q.id.code c ≡ false = ap (λ (u : TransactionId). same_code u.code c) (newest_id (transitions_of es) n.id q was).1 ∙ other in
      record {
        unit_holdings = λ s. ap (λ h. map.get h.unit_holdings s) carried.3 ∙ kept.unit_holdings s ∙ sym (unit_holding_unmoved scheme c es made_so n.id (notified_status n.notified) q told moment.seconds was other move (cancelled_open told status) s);
        accounts = accounts_so e refl (ap (λ h. h.accounts) carried.3);
        initiator = ap (λ (i : InitiatorView). i.code) carried.0 ∙ kept.initiator;
        last = ap (λ (i : InitiatorView). i.last) carried.0 ∙ kept.last ∙ sym (proposals_kept e es refl);
        own = own_stays e x refl theirs carried.0;
        acquirer = carried.1 ∙ kept.acquirer;
        foreign = ended_foreign q n.id id told Cancelled moment.seconds was other same status carried.2;
      }

  -- what comes to its end has a content
  ended_content : (n : NotificationMessage) (q : Transition) (told : Status) → newest (transitions_of es) n.id ≡ Some q → same_code n.id.code c ≡ false → acquirer_row (Stands q.new) (Notified (notified_status n.notified)) ≡ Move told
      → (k : Content) × (q.content ≡ Some k)
  ended_content n q told was other move =
      elim (known scheme c es made_so n.id q was other) [
        | inl bare_end ↦ let y : Accepted ≡ Cancelled = sym (acquirer_from q.new (notified_status n.notified) told move).0 ∙ bare_end.0 in absurd (cc (y))
        | inr taken ↦ (taken.content, taken.is)
      ]

  completed_kept : (n : NotificationMessage) (moment : Moment) (q : Transition) (told : Status) (id : TransactionId) → newest (transitions_of es) n.id ≡ Some q → same_code n.id.code c ≡ false
      → acquirer_row (Stands q.new) (Notified (notified_status n.notified)) ≡ Move told → (same_status told Completed && holds_some scheme c (transitions_of es) q.content) ≡ false → n.id ≡ id → told ≡ Completed
      → Carried (Complete id) tables.initiator tables'.initiator tables.acquirer tables'.acquirer tables.holdings tables'.holdings
      → AreKept scheme c (entry (Received (message.notification n) moment) (moved q told moment.seconds [] ∷ []) ∷ es) tables'
  completed_kept n moment q told id was other move none same status carried =
      let x = moved q told moment.seconds [] in
      let input = Received (message.notification n) moment in
      let e = entry input (x ∷ []) in
      let theirs : same_code q.id.code c ≡ false = ap (λ (u : TransactionId). same_code u.code c) (newest_id (transitions_of es) n.id q was).1 ∙ other in
      let k = ended_content n q told was other move in
      let row : acquirer.kept_content (map.get tables.acquirer.transfers id) ≡ Some k.0 =
      ap (λ t. acquirer.kept_content (map.get tables.acquirer.transfers t)) (sym same) ∙ row_content scheme c es tables kept entered n.id q was other ∙ k.1 in
      let blocks = carried.4 k.0 row in
      record {
        unit_holdings = λ s.
            blocks.2 s
            ∙ ap (option_or (option_map (free_unit_holding k.0.to_account) (kind_in blocks.0 s))) (kept.unit_holdings s)
            ∙ sym (unit_holding_credited scheme c es made_so n.id (notified_status n.notified) q told moment.seconds k.0 blocks.0 was other move status k.1 none blocks.1 s);
        accounts = accounts_so e refl carried.3;
        initiator = ap (λ (i : InitiatorView). i.code) carried.0 ∙ kept.initiator;
        last = ap (λ (i : InitiatorView). i.last) carried.0 ∙ kept.last ∙ sym (proposals_kept e es refl);
        own = own_stays e x refl theirs carried.0;
        acquirer = carried.1 ∙ kept.acquirer;
        foreign = ended_foreign q n.id id told Completed moment.seconds was other same status carried.2;
      }

  -- ---- any of them

  foreign_clash : {X : Type 0} (t id : TransactionId) → t ≡ id → same_code t.code c ≡ true → is_foreign c id ≡ true → X
  foreign_clash t id same own other = clash (same_code id.code c) (ap (λ (u : TransactionId). same_code u.code c) (sym same) ∙ own) (foreign_of c id other)

  known_clash : {X : Type 0} (t id : TransactionId) (q : Transition) → t ≡ id → newest (transitions_of es) t ≡ Some q → is_known (transitions_of es) id ≡ false → X
  known_clash t id q same was none = clash (is_known (transitions_of es) id) (ap (is_known (transitions_of es)) (sym same) ∙ ap is_some was) none

  -- a transition opens and closes no account
  moves_no_account : (input : Input) (x : Transition) (account : ℕ) → RegistryMove scheme c es input x → (IsEffect c es input x (effects.OpenAccount account) → ⊥) × (IsEffect c es input x (effects.CloseAccount account) → ⊥)
  moves_no_account input x account (proposes o t none is fresh) = (λ h. h, λ h. h)
  moves_no_account input x account (asks t q was own stood) = (λ h. h, λ h. h)
  moves_no_account input x account (concludes n moment q told f was own move) = (λ h. h, λ h. h)
  moves_no_account input x account (bares n moment f cancelled none foreign) = (λ h. h, λ h. h)
  moves_no_account input x account (finishes n moment q told f was foreign move none) = (λ h. h, λ h. h)
  moves_no_account input x account (arrives p moment found f s is none foreign mine) = (λ h. h, λ h. h)

  pub moved_kept : (input : Input) (x : Transition) (effect : RegistryEffect) → RegistryMove scheme c es input x → IsEffect c es input x effect
      → Carried effect tables.initiator tables'.initiator tables.acquirer tables'.acquirer tables.holdings tables'.holdings
      → AreKept scheme c (entry input (x ∷ []) ∷ es) tables'
  moved_kept input x (Open new_transfer) (proposes o t none is fresh) h carried = opened_kept o t new_transfer none is fresh h.0 (one_some (content_of o) new_transfer.content h.1) carried
  moved_kept input x (Ask id) (asks t q was own stood) h carried = asked_kept t q id was own stood h carried
  moved_kept input x (Conclude id new) (concludes n moment q told f was own move) h carried = concluded_kept n moment q told id new was own move h.0 h.1 carried
  moved_kept input x (Conclude id new) (bares n moment f cancelled none foreign) h carried =
      clash (same_code id.code c) h.2 (ap (λ (u : TransactionId). same_code u.code c) (sym h.0) ∙ foreign)
  moved_kept input x (Conclude id new) (finishes n moment q told f was foreign move none) h carried =
      clash (same_code id.code c) h.2 (ap (λ (u : TransactionId). same_code u.code c) (sym h.0) ∙ foreign)
  moved_kept input x (Arrive id new content) (arrives p moment found f s is none foreign mine) h carried = arrived_kept p moment found id new content none foreign h.0 h.1 h.2 carried
  moved_kept input x (Forestall id) (bares n moment f cancelled none foreign) h carried = forestalled_kept n moment id none foreign h.0 carried
  moved_kept input x (Forestall id) (concludes n moment q told f was own move) h carried = known_clash n.id id q h.0 was h.1
  moved_kept input x (Forestall id) (finishes n moment q told f was foreign move none) h carried = known_clash n.id id q h.0 was h.1
  moved_kept input x (Complete id) (finishes n moment q told f was foreign move none) h carried = completed_kept n moment q told id was foreign move none h.0 h.1 carried
  moved_kept input x (Complete id) (bares n moment f cancelled none foreign) h carried = let e : Cancelled ≡ Completed = h.1 in absurd (cc (e))
  moved_kept input x (Complete id) (concludes n moment q told f was own move) h carried = foreign_clash n.id id h.0 own h.2
  moved_kept input x (Cancel id) (finishes n moment q told f was foreign move none) h carried = cancelled_kept n moment q told id was foreign move h.0 h.1 carried
  moved_kept input x (Cancel id) (bares n moment f cancelled none foreign) h carried =
      clash (is_known (transitions_of es) id) h.3 (ap (is_known (transitions_of es)) (sym h.0) ∙ ap is_some none)
  moved_kept input x (Cancel id) (concludes n moment q told f was own move) h carried = foreign_clash n.id id h.0 own h.2
  moved_kept input x (effects.OpenAccount account) move h carried = absurd ((moves_no_account input x account move).0 h)
  moved_kept input x (effects.CloseAccount account) move h carried = absurd ((moves_no_account input x account move).1 h)
  moved_kept input x effect move h carried = absurd h

pub kept_moved : (scheme : Scheme) (c : Code) (tables tables' : Tables) (input : Input) (x : Transition) (effect : RegistryEffect) → IsKept scheme c tables
    → verdict scheme (Registry c) (history scheme (Registry c) tables.records.inputs) input ≡ IsRecorded (x ∷ []) → IsEffect c (history scheme (Registry c) tables.records.inputs) input x effect
    → Carried effect tables.initiator tables'.initiator tables.acquirer tables'.acquirer tables.holdings tables'.holdings → tables'.records.inputs ≡ tables.records.inputs ++ input ∷ [] → AreKept scheme c (history scheme (Registry c) tables'.records.inputs) tables'
kept_moved scheme c tables tables' input x effect kept enters h carried journal =
    let es = history scheme (Registry c) tables.records.inputs in
    kept_recorded scheme c tables tables' input (x ∷ []) enters journal
    (moved_kept scheme c es tables tables' kept.kept (replays_entered scheme c tables.records.inputs kept.records.replays) input x effect (entered_move scheme c es input x enters) h carried)
