-- What a node answers to a message that was sent, whether or not its journal has room: the row of the table. A message
-- that was sent is refused for lack of room alone (`WelcomeMessages`), and so the lemmas state, for each kind of message
-- and node, which transition is recorded if there is room.
use Rattle.status.specs.declared.rows.Row.{Row}
use Rattle.safety.proofs.MovesAndHistories.NewestTransitions.{newest_id}
use Rattle.safety.proofs.MovesAndHistories.TableRows.{known_status, unless_same}
use Rattle.safety.proofs.MovesAndHistories.TableMoves.{concluded_transition, passed_transition, finished_transition}
use Rattle.std.proofs.Common.{◌≡◌, ℕ, List, [], ◌∷◌, true, false, Some, None, inl, inr, refl, ap, subst, ◌∙◌, Bool}
use Rattle.std.specs.Prelude.{◌==◌}
use Rattle.std.proofs.lemmas.Bool.{cond-true, cond-false, cases_Bool, eqb-false}
use Rattle.units.specs.Code.{same_code}
use Rattle.units.specs.RefusalCodes.{no_row, journal_full}
use Rattle.units.specs.declared.code.Code.{Code}
use Rattle.units.specs.declared.code.Node.{Node}
use Rattle.units.specs.declared.code.Node.TheVariants.{Itl, Registry}
use Rattle.status.specs.Content.{Content}
use Rattle.status.specs.Rows.{initiator_row, log_row, acquirer_row}
use Rattle.status.specs.declared.id.TransactionId.{TransactionId}
use Rattle.status.specs.declared.moment.Moment.{Moment}
use Rattle.status.specs.declared.rows.RecordedStatus.TheVariants.{Stands, Unknown}
use Rattle.status.specs.declared.status.Status.TheVariants.{Cancelled}
use Rattle.wire.specs.declared.notified.NotifiedStatus.TheVariants as notified
use Rattle.status.specs.declared.rows.Row.TheVariants.{Move, Refused}
use Rattle.status.specs.declared.rows.RowInput.TheVariants.{Notified}
use Rattle.status.specs.declared.status.Status.{Status}
use Rattle.wire.specs.NotifiedStatuses.{notified_status, notified_codes}
use Rattle.wire.specs.declared.input.Input.TheVariants.{Received}
use Rattle.wire.specs.declared.message.Message.{Message}
use Rattle.wire.specs.declared.message.ProposalStatus.TheVariants as proposal
use Rattle.wire.specs.declared.notified.NotifiedStatus.{NotifiedStatus}
use Rattle.scheme.specs.declared.registries.Scheme.{Scheme}
use Rattle.protocol.specs.AtLog as log
use Rattle.protocol.specs.AtLog.{ledger, log_refusals, log_answer}
use Rattle.protocol.specs.AtRegistry.{holding, arrival, in_role, unless_held, holds_some, registry_refusals, registry_answer}
use Rattle.protocol.specs.Checks.{Causes, acquirer_findings, log_findings}
use Rattle.protocol.specs.Deciding as decide
use Rattle.protocol.specs.Deciding.{Verdict, IsRecorded, IsRefused, recorded_if_room, refuse, known, by_row}
use Rattle.protocol.specs.Effects.{notifies, proposes, initiator_sends, log_sends, acquirer_sends}
use Rattle.protocol.specs.History.{Entry, Transition, newest, sends, transitions_of}
use Rattle.protocol.specs.Verdict.{verdict}
use Rattle.safety.proofs.MovesAndHistories.TransitionForms.{arrived, concluded_messages, checked, told_to, moved}
use Rattle.safety.proofs.AgreementOfNodes.CausalHistories.{Causal}
use Rattle.units.proofs.Lists.Membership.{In}
use Rattle.safety.proofs.MovesAndHistories.RefusalCauses.{Welcome}
use Rattle.safety.proofs.DeliveryLemmas.WelcomeMessages.{welcome}
use Rattle.safety.proofs.WorldLemmas.NodesWithStation.{Unplaced}

abbrev NoneFull : Causes → Type 0
NoneFull [] = Unit {0}
NoneFull (c ∷ cs) = ((c.1 == journal_full) ≡ false) × NoneFull cs

-- a message that is welcome, and not refused for lack of room, isn't refused
pub unrefused : (cs : Causes) (v : Verdict) → Welcome (refuse cs v) → NoneFull cs → refuse cs v ≡ v
unrefused [] v w n = refl
unrefused (c ∷ cs) v w n =
    elim (cases_Bool c.0) [
      | inl y ↦ absurd (eqb-false c.1 journal_full n.0 (w c.1 (cond-true c.0 (IsRefused c.1) (refuse cs v) y)))
      | inr o ↦ let e = cond-false c.0 (IsRefused c.1) (refuse cs v) o in e ∙ unrefused cs v (subst Welcome e w) n.1
    ]

-- a proposal of a transaction that is not known
checked_row : (scheme : Scheme) (es : List Entry) (t : TransactionId) (k : Content) (moment : ℕ) (found : List ℕ)
    → log.checked scheme es t None k moment found ≡ recorded_if_room scheme es (checked t k moment found ∷ [])
checked_row scheme es t k moment [] = refl
checked_row scheme es t k moment (c ∷ cs) = refl

arrived_row : (scheme : Scheme) (c : Code) (es : List Entry) (t : TransactionId) (k : Content) (moment : ℕ) (found : List ℕ)
    → arrival scheme c es t None k moment found ≡ recorded_if_room scheme es (arrived c t k moment found ∷ [])
arrived_row scheme c es t k moment [] = refl
arrived_row scheme c es t k moment (n ∷ ns) = refl

-- what is welcome finds no unit held
free_row : (scheme : Scheme) (es : List Entry) (to : Status → Transition) (held : Bool) (row : Row) → (row ≡ Refused → ⊥) → Welcome (by_row scheme es to (unless_held held row)) → unless_held held row ≡ row
free_row scheme es to false row there w = refl
free_row scheme es to true row there w = unless_same true row (λ e. absurd (
    let v : Welcome (IsRefused no_row) = subst (λ r. Welcome (by_row scheme es to (unless_held true r))) e w in
    let z = v no_row refl in
    eqb-false no_row journal_full refl z))

abbrev pub Last : (Node → List Entry) → Node → TransactionId → Transition → Type 0
Last f n t x = newest (transitions_of (f n)) t ≡ Some x

module _ (scheme : Scheme) (f : Node → List Entry) (causal : Causal scheme f) (unplaced : Unplaced scheme f) (moment : Moment) where
  heard : (m : Message) → In m (sends (f m.from)) → Welcome (verdict scheme m.to (f m.to) (Received m moment))
  heard m h = welcome scheme f causal refl unplaced m.from m.to refl refl m moment refl refl h

  -- ---- at the log

  pub log_takes_offer : (c : Code) (t : TransactionId) (k : Content) → In (proposes (Registry c) Itl t proposal.Proposed k) (sends (f (Registry c)))
      → newest (transitions_of (f Itl)) t ≡ None
      → verdict scheme Itl (f Itl) (Received (proposes (Registry c) Itl t proposal.Proposed k) moment)
      ≡ recorded_if_room scheme (f Itl) (checked t k moment.seconds (log_findings scheme (ledger scheme (f Itl)) t.code k) ∷ [])
  unfolding verdict
  log_takes_offer c t k h none =
      let m : Message = proposes (Registry c) Itl t proposal.Proposed k in
      unrefused (log_refusals scheme (f Itl) m) (log_answer scheme (f Itl) moment.seconds m.id m.body) (heard m h) (refl, (refl, (refl, (refl, (refl, tt)))))
      ∙ ap (λ o. log.checked scheme (f Itl) t o k moment.seconds (log_findings scheme (ledger scheme (f Itl)) t.code k)) none
      ∙ checked_row scheme (f Itl) t k moment.seconds (log_findings scheme (ledger scheme (f Itl)) t.code k)

  pub log_takes_notified : (c : Code) (t : TransactionId) (said : NotifiedStatus) (l : Transition) (k : Content) (new : Status) → l.content ≡ Some k → In (notifies (Registry c) Itl t said) (sends (f (Registry c))) → Last f Itl t l
      → log_row (Stands l.new) (Notified (notified_status said)) ≡ Move new
      → verdict scheme Itl (f Itl) (Received (notifies (Registry c) Itl t said) moment) ≡ recorded_if_room scheme (f Itl) (moved l new moment.seconds (notifies Itl (told_to l.id k new) l.id said ∷ []) ∷ [])
  unfolding verdict
  log_takes_notified c t said l k new content h is move =
      let m : Message = notifies (Registry c) Itl t said in
      unrefused (log_refusals scheme (f Itl) m) (log_answer scheme (f Itl) moment.seconds m.id m.body) (heard m h) (refl, (refl, (refl, (refl, tt))))
      ∙ ap (λ o. log.told scheme (f Itl) t o (notified_codes said) moment.seconds (Notified (notified_status said))) is
      ∙ ap (by_row scheme (f Itl) (decide.moved t l.content moment.seconds (log_sends t l.content (notified_codes said) (Notified (notified_status said)))))
      (ap (λ z. log_row z (Notified (notified_status said))) (known_status l k content) ∙ move)
      ∙ ap (λ x. recorded_if_room scheme (f Itl) (x ∷ []))
      (passed_transition t l k said new moment.seconds (newest_id (transitions_of (f Itl)) t l is).1 content move)

  -- ---- at a registry

  pub acquirer_takes_offer : (c : Code) (t : TransactionId) (k : Content) → In (proposes Itl (Registry c) t proposal.Checked k) (sends (f Itl))
      → newest (transitions_of (f (Registry c))) t ≡ None
      → verdict scheme (Registry c) (f (Registry c)) (Received (proposes Itl (Registry c) t proposal.Checked k) moment)
      ≡ recorded_if_room scheme (f (Registry c)) (arrived c t k moment.seconds (acquirer_findings scheme c (holding scheme c (f (Registry c))) k) ∷ [])
  unfolding verdict
  acquirer_takes_offer c t k h none =
      let m : Message = proposes Itl (Registry c) t proposal.Checked k in
      unrefused (registry_refusals c (f (Registry c)) m) (registry_answer scheme c (f (Registry c)) moment.seconds m.id m.body) (heard m h) (refl, (refl, (refl, (refl, (refl, tt)))))
      ∙ ap (λ o. arrival scheme c (f (Registry c)) t o k moment.seconds (acquirer_findings scheme c (holding scheme c (f (Registry c))) k)) none
      ∙ arrived_row scheme c (f (Registry c)) t k moment.seconds (acquirer_findings scheme c (holding scheme c (f (Registry c))) k)

  notified_open : (c : Code) (t : TransactionId) (said : NotifiedStatus) (x : Transition) → In (notifies Itl (Registry c) t said) (sends (f Itl)) → Last f (Registry c) t x
      → (verdict scheme (Registry c) (f (Registry c)) (Received (notifies Itl (Registry c) t said) moment)
      ≡ in_role scheme c (f (Registry c)) t (Some x) moment.seconds (Notified (notified_status said)))
      × Welcome (in_role scheme c (f (Registry c)) t (Some x) moment.seconds (Notified (notified_status said)))
  unfolding verdict
  notified_open c t said x h is =
      let m : Message = notifies Itl (Registry c) t said in
      let e =
      unrefused (registry_refusals c (f (Registry c)) m) (registry_answer scheme c (f (Registry c)) moment.seconds m.id m.body) (heard m h) (refl, (refl, (refl, tt)))
      ∙ ap (λ o. in_role scheme c (f (Registry c)) t o moment.seconds (Notified (notified_status said))) is in
      (e, subst Welcome e (heard m h))

  pub initiator_takes : (c : Code) (t : TransactionId) (said : NotifiedStatus) (x : Transition) (k : Content) (new : Status) → x.content ≡ Some k → In (notifies Itl (Registry c) t said) (sends (f Itl))
      → Last f (Registry c) t x → same_code t.code c ≡ true → initiator_row (Stands x.new) (Notified (notified_status said)) ≡ Move new
      → verdict scheme (Registry c) (f (Registry c)) (Received (notifies Itl (Registry c) t said) moment) ≡ recorded_if_room scheme (f (Registry c)) (moved x new moment.seconds (concluded_messages c x.id new) ∷ [])
  initiator_takes c t said x k new content h is own move =
      let es = f (Registry c) in
      let told = notified_status said in
      (notified_open c t said x h is).0
      ∙ cond-true (same_code t.code c) _ _ own
      ∙ ap (by_row scheme es (decide.moved t x.content moment.seconds (initiator_sends c t x.content (Notified told)))) (ap (λ z. initiator_row z (Notified told)) (known_status x k content) ∙ move)
      ∙ ap (λ y. recorded_if_room scheme es (y ∷ [])) (concluded_transition c t x told new moment.seconds (newest_id (transitions_of es) t x is).1 move)

  pub acquirer_takes : (c : Code) (t : TransactionId) (said : NotifiedStatus) (x : Transition) (k : Content) (new : Status) → x.content ≡ Some k → In (notifies Itl (Registry c) t said) (sends (f Itl))
      → Last f (Registry c) t x → same_code t.code c ≡ false → acquirer_row (Stands x.new) (Notified (notified_status said)) ≡ Move new
      → verdict scheme (Registry c) (f (Registry c)) (Received (notifies Itl (Registry c) t said) moment) ≡ recorded_if_room scheme (f (Registry c)) (moved x new moment.seconds [] ∷ [])
  acquirer_takes c t said x k new content h is foreign move =
      let es = f (Registry c) in
      let told = notified_status said in
      let held = holds_some scheme c (transitions_of es) x.content in
      let to = decide.moved t x.content moment.seconds (acquirer_sends c t [] (Notified told)) in
      let o = notified_open c t said x h is in
      let e =
      cond-false (same_code t.code c) _ (by_row scheme es to (unless_held held (acquirer_row (known (Some x)) (Notified told)))) foreign
      ∙ ap (λ row. by_row scheme es to (unless_held held row)) (ap (λ z. acquirer_row z (Notified told)) (known_status x k content) ∙ move) in
      o.0 ∙ e
      ∙ ap (by_row scheme es to) (free_row scheme es to held (Move new) (λ h. cc (h)) (subst Welcome e o.1))
      ∙ ap (λ y. recorded_if_room scheme es (y ∷ [])) (finished_transition t x new moment.seconds (newest_id (transitions_of es) t x is).1)

  -- a cancellation of what the acquirer doesn't know
  pub acquirer_bares : (c : Code) (t : TransactionId) → In (notifies Itl (Registry c) t notified.Cancelled) (sends (f Itl)) → newest (transitions_of (f (Registry c))) t ≡ None → same_code t.code c ≡ false
      → (y : Transition) × (verdict scheme (Registry c) (f (Registry c)) (Received (notifies Itl (Registry c) t notified.Cancelled) moment) ≡ recorded_if_room scheme (f (Registry c)) (y ∷ []))
  unfolding verdict
  acquirer_bares c t h none foreign =
      let m : Message = notifies Itl (Registry c) t notified.Cancelled in
      let es = f (Registry c) in
      let to = decide.moved t None moment.seconds (acquirer_sends c t [] (Notified Cancelled)) in (
        to Cancelled,
        unrefused (registry_refusals c es m) (registry_answer scheme c es moment.seconds m.id m.body) (heard m h) (refl, (refl, (refl, tt)))
            ∙ ap (λ o. in_role scheme c es t o moment.seconds (Notified Cancelled)) none
            ∙ cond-false (same_code t.code c) _ (by_row scheme es to (unless_held false (acquirer_row Unknown (Notified Cancelled)))) foreign,
      )
