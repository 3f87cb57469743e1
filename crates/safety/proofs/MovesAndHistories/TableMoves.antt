-- The verdicts as two relations, `RegistryMove` and `LogMove`: each case of them is one way in which an input
-- makes a transition. `registry_moves` and `log_moves` show that every transition that a verdict makes is one of
-- these cases. They take the verdict apart in its own order: the causes of a refusal, what the transaction has so
-- far, and the row of the table. All later inductions over histories go through these cases, and none of them
-- unfolds a verdict again.
use Rattle.std.proofs.Common.{◌≡◌, ℕ, List, [], ◌∷◌, Bool, true, false, not, cond, Option, Some, None, ◌⊎◌, inl, inr, refl, sym, ap, subst, ◌∙◌}
use Rattle.std.specs.Prelude.{filter, ◌&&◌, nat_le, length, ◌+◌}
use Rattle.std.specs.Ordering.{is_lt}
use Rattle.std.proofs.lemmas.Bool.{or_parts, not-false, cond-true, cond-false, cases_Bool, and_parts}
use Rattle.units.specs.Code.{same_code}
use Rattle.units.specs.RefusalCodes.{journal_full}
use Rattle.units.specs.declared.code.Code.{Code}
use Rattle.units.specs.declared.code.Node.TheVariants.{Itl, Registry}
use Rattle.units.proofs.Same.{node_of_same}
use Rattle.status.proofs.Ids.{same_id-refl, id_of_same}
use Rattle.status.specs.Content.{Content}
use Rattle.status.specs.Id.{same_id, id_at, id_cmp}
use Rattle.status.specs.Order.{Order}
use Rattle.status.specs.Rows.{initiator_row, log_row, acquirer_row}
use Rattle.status.specs.Status.{same_status}
use Rattle.status.specs.declared.id.TransactionId.{TransactionId}
use Rattle.status.specs.declared.moment.Moment.{Moment}
use Rattle.status.specs.declared.rows.RecordedStatus.TheVariants.{Stands}
use Rattle.status.specs.declared.rows.Row.{Row}
use Rattle.status.specs.declared.rows.Row.TheVariants.{Move, Repeat, Late, Refused}
use Rattle.status.specs.declared.rows.RowInput.TheVariants as column
use Rattle.status.specs.declared.rows.RowInput.TheVariants.{Notified}
use Rattle.status.specs.declared.status.Status.{Status}
use Rattle.status.specs.declared.status.Status.TheVariants.{Proposed, Checked, Cancelled, Completed}
use Rattle.wire.specs.NotifiedStatuses.{notified_status, notified_codes}
use Rattle.wire.specs.declared.input.Input.{Input}
use Rattle.wire.specs.declared.input.Input.TheVariants.{Propose, Request, OpenAccount, CloseAccount, Ack, CleanUp, Eligible, Received}
use Rattle.wire.specs.declared.message.Message.{Message}
use Rattle.protocol.proofs.MessageForms as message
use Rattle.protocol.proofs.MessageForms.{ProposalMessage, NotificationMessage, RequestMessage as Asking, Form, form, of_proposal, of_notification, of_request}
use Rattle.wire.specs.declared.message.ProposalStatus.{ProposalStatus}
use Rattle.wire.specs.declared.message.ProposalStatus.TheVariants as proposal
use Rattle.wire.specs.declared.notified.NotifiedStatus.{NotifiedStatus}
use Rattle.wire.specs.declared.notified.NotifiedStatus.TheVariants as notified
use Rattle.scheme.specs.declared.registries.Scheme.{Scheme}
use Rattle.protocol.specs.History.{Transition, Entry, transitions_of, newest, is_acknowledged, is_eligible, is_requested, proposals}
use Rattle.protocol.specs.Checks.{Causes, propose_refusals, acquirer_findings, log_findings}
use Rattle.protocol.specs.Deciding as decide
use Rattle.protocol.specs.Deciding.{Verdict, IsRecorded, IsRepeat, IsRefused, refuse, recorded_if_room, known, content_in, moved_by, by_row, ack_refusals, acknowledge}
use Rattle.protocol.specs.Effects.{notifies, requests, initiator_sends, log_sends, acquirer_sends}
use Rattle.protocol.specs.AtRegistry.{holding, content_of, new_transfer_verdict, arrival, in_role, unless_held, holds_some, is_checked, request_refusals, request_column, registry_refusals, registry_message, open_refusals, close_refusals, registry_verdict}
use Rattle.protocol.specs.AtLog as log
use Rattle.protocol.specs.AtLog.{ledger, is_proposed, is_no_registry, is_from_another, log_refusals, log_answer, log_message, newest_of_each, is_old, put_transition, by_id, cleaned, expired, clean_up, same_bool, eligible_refusals, log_verdict}
use Rattle.protocol.specs.Verdict.{transitions_made}
use Rattle.safety.proofs.MovesAndHistories.TransitionForms.{moved, proposed, asking, arrived, concluded_messages, bare, checked, told_to, cancelled, forestalled}
use Rattle.units.proofs.Lists.Membership.{In, In_cond, In_filter, In_flat_map}
use Rattle.safety.proofs.MovesAndHistories.TableRows.{nothing_known, status_known, initiator_proposes, initiator_asks, initiator_asks_once, initiator_unasked, acquirer_unasked, initiator_notified, log_notified, acquirer_notified, log_asked, log_cleans, acquirer_offered, log_offered, unless_moves, concluded_sends, passed_sends}

-- none of the causes stands
abbrev pub NoneStands : Causes → Type 0
NoneStands [] = Unit {0}
NoneStands (c ∷ cs) = (c.0 ≡ false) × NoneStands cs

pub data RegistryMove (scheme : Scheme) (c : Code) (es : List Entry) : Input → Transition → Type 0 where
  proposes : (o : Order) (t : TransactionId) → NoneStands (propose_refusals scheme c (holding scheme c es) o) → id_at c (proposals es + 1) ≡ Some t
      → newest (transitions_of es) t ≡ None → RegistryMove scheme c es (Propose o) (proposed c t (content_of o))
  asks : (t : TransactionId) (x : Transition) → newest (transitions_of es) t ≡ Some x → same_code t.code c ≡ true → x.new ≡ Proposed → RegistryMove scheme c es (Request t) (asking c x)
  arrives : (p : ProposalMessage) (moment : Moment) (found : List ℕ) → p.from ≡ Itl → p.status ≡ proposal.Checked → found ≡ acquirer_findings scheme c (holding scheme c es) p.content
      → newest (transitions_of es) p.id ≡ None → same_code p.id.code c ≡ false → same_code p.content.acquirer c ≡ true
      → RegistryMove scheme c es (Received (message.proposal p) moment) (arrived c p.id p.content moment.seconds found)
  bares : (n : NotificationMessage) (moment : Moment) → n.from ≡ Itl → notified_status n.notified ≡ Cancelled → newest (transitions_of es) n.id ≡ None → same_code n.id.code c ≡ false
      → RegistryMove scheme c es (Received (message.notification n) moment) (bare n.id moment.seconds)
  concludes : (n : NotificationMessage) (moment : Moment) (x : Transition) (new : Status) → n.from ≡ Itl → newest (transitions_of es) n.id ≡ Some x → same_code n.id.code c ≡ true
      → initiator_row (Stands x.new) (Notified (notified_status n.notified)) ≡ Move new
      → RegistryMove scheme c es (Received (message.notification n) moment) (moved x new moment.seconds (concluded_messages c x.id new))
  finishes : (n : NotificationMessage) (moment : Moment) (x : Transition) (new : Status) → n.from ≡ Itl → newest (transitions_of es) n.id ≡ Some x → same_code n.id.code c ≡ false
      → acquirer_row (Stands x.new) (Notified (notified_status n.notified)) ≡ Move new → (same_status new Completed && holds_some scheme c (transitions_of es) x.content) ≡ false
      → RegistryMove scheme c es (Received (message.notification n) moment) (moved x new moment.seconds [])

-- an input that cancels the transaction while the log has it Checked
pub data Withdraws : Input → TransactionId → Moment → Type 0 where
  cleans : (moment : Moment) (t : TransactionId) → Withdraws (CleanUp moment) t moment
  requested : (r : Asking) (moment : Moment) → r.from ≡ Registry r.id.code → Withdraws (Received (message.request r) moment) r.id moment

pub data LogMove (scheme : Scheme) (es : List Entry) : Input → Transition → Type 0 where
  checks : (p : ProposalMessage) (moment : Moment) (found : List ℕ) → p.from ≡ Registry p.id.code → p.status ≡ proposal.Proposed → found ≡ log_findings scheme (ledger scheme es) p.id.code p.content
      → newest (transitions_of es) p.id ≡ None → is_no_registry scheme p.from ≡ false
      → LogMove scheme es (Received (message.proposal p) moment) (checked p.id p.content moment.seconds found)
  passes : (n : NotificationMessage) (moment : Moment) (x : Transition) (k : Content) (new : Status) → newest (transitions_of es) n.id ≡ Some x → x.content ≡ Some k → is_no_registry scheme n.from ≡ false
      → is_from_another n.from n.id x.content (notified_status n.notified) ≡ false → log_row (Stands x.new) (Notified (notified_status n.notified)) ≡ Move new
      → LogMove scheme es (Received (message.notification n) moment) (moved x new moment.seconds (notifies Itl (told_to x.id k new) x.id n.notified ∷ []))
  cancels : (given : Input) (moment : Moment) (t : TransactionId) (x : Transition) (k : Content) → Withdraws given t moment → newest (transitions_of es) t ≡ Some x → x.content ≡ Some k
      → x.new ≡ Checked → LogMove scheme es given (cancelled moment.seconds x k)
  forestalls : (r : Asking) (moment : Moment) → r.from ≡ Registry r.id.code → is_no_registry scheme r.from ≡ false → newest (transitions_of es) r.id ≡ None
      → LogMove scheme es (Received (message.request r) moment) (forestalled r.id moment.seconds)

pub refuse_made : (cs : Causes) (v : Verdict) (x : Transition) → In x (transitions_made (refuse cs v)) → NoneStands cs × In x (transitions_made v)
refuse_made [] v x h = (tt, h)
refuse_made (c ∷ cs) v x h = go c.0 c.1 (refuse cs v) (refuse_made cs v x) h
  where
    go : (b : Bool) (n : ℕ) (u : Verdict) → (In x (transitions_made u) → NoneStands cs × In x (transitions_made v)) → In x (transitions_made (cond b (IsRefused n) u)) → ((b ≡ false) × NoneStands cs) × In x (transitions_made v)
    go true n u f h = absurd h
    go false n u f h = let q = f h in ((refl, q.0), q.1)

enters_made : (scheme : Scheme) (es : List Entry) (xs : List Transition) (x : Transition) → In x (transitions_made (recorded_if_room scheme es xs)) → In x xs
enters_made scheme es xs x h = go (nat_le scheme.records (length es)) h
  where
    go : (b : Bool) → In x (transitions_made (cond b (IsRefused journal_full) (IsRecorded xs))) → In x xs
    go true h = absurd h
    go false h = h

only : {X : Type 0} (x y : X) → In y (x ∷ []) → x ≡ y
only x y (inl e) = e
only x y (inr h) = absurd h

choice_made : (b : Bool) (u v : Verdict) (x : Transition) → In x (transitions_made (cond b u v)) → ((b ≡ true) × In x (transitions_made u)) ⊎ ((b ≡ false) × In x (transitions_made v))
choice_made true u v x h = inl (refl, h)
choice_made false u v x h = inr (refl, h)

-- what a row that moves makes
by_row_made : (scheme : Scheme) (es : List Entry) (to : Status → Transition) (row : Row) (x : Transition) → In x (transitions_made (by_row scheme es to row)) → (new : Status) × (row ≡ Move new) × (to new ≡ x)
by_row_made scheme es to (Move new) x h = (new, refl, only _ x (enters_made scheme es _ x h))
by_row_made scheme es to Repeat x h = absurd h
by_row_made scheme es to Late x h = absurd h
by_row_made scheme es to Refused x h = absurd h

-- one transition, in other words
same_moved : (t u : TransactionId) (k l : Option Content) (moment : ℕ) (ms ns : List Message) (new : Status) → t ≡ u → k ≡ l → ms ≡ ns → decide.moved t k moment ms new ≡ decide.moved u l moment ns new
same_moved t u k l moment ms ns new a b e =
    ap (λ z. decide.moved z k moment ms new) a ∙ ap (λ z. decide.moved u z moment ms new) b ∙ ap (λ z. decide.moved u l moment z new) e

-- the newest transition of an identifier has it
of_newest : (xs : List Transition) (t : TransactionId) (x : Transition) → newest xs t ≡ Some x → x.id ≡ t
of_newest [] t x h = absurd (cc (h))
of_newest (p ∷ ps) t x h =
    elim (cases_Bool (same_id p.id t)) [
      | inl y ↦
          let g = sym (cond-true (same_id p.id t) (Some p) (newest ps t) y) ∙ h in
          let q : p ≡ x = cc (g) in
          sym (ap (λ (z : Transition). z.id) q) ∙ id_of_same p.id t y
      | inr n ↦ of_newest ps t x (sym (cond-false (same_id p.id t) (Some p) (newest ps t) n) ∙ h)
    ]

-- what a row of each role makes of a transaction that has a content
pub concluded_transition : (c : Code) (t : TransactionId) (x : Transition) (told new : Status) (moment : ℕ) → x.id ≡ t → initiator_row (Stands x.new) (Notified told) ≡ Move new
    → decide.moved t x.content moment (initiator_sends c t x.content (Notified told)) new ≡ moved x new moment (concluded_messages c x.id new)
concluded_transition c t x told new moment id row =
    same_moved t x.id x.content x.content moment _ _ new (sym id) refl (concluded_sends c t x.content x.new told new row ∙ ap (λ z. concluded_messages c z new) (sym id))

pub passed_transition : (t : TransactionId) (x : Transition) (k : Content) (said : NotifiedStatus) (new : Status) (moment : ℕ) → x.id ≡ t → x.content ≡ Some k → log_row (Stands x.new) (Notified (notified_status said)) ≡ Move new
    → decide.moved t x.content moment (log_sends t x.content (notified_codes said) (Notified (notified_status said))) new ≡ moved x new moment (notifies Itl (told_to x.id k new) x.id said ∷ [])
passed_transition t x k said new moment id content row =
    same_moved t x.id x.content x.content moment _ _ new (sym id) refl
    (ap (λ z. log_sends t z (notified_codes said) (Notified (notified_status said))) content ∙ ap (λ z. log_sends z (Some k) (notified_codes said) (Notified (notified_status said))) (sym id) ∙ passed_sends x k said new row)

pub finished_transition : (t : TransactionId) (x : Transition) (new : Status) (moment : ℕ) → x.id ≡ t → decide.moved t x.content moment [] new ≡ moved x new moment []
finished_transition t x new moment id = same_moved t x.id x.content x.content moment [] [] new (sym id) refl refl

module _ (scheme : Scheme) (c : Code) (es : List Entry) where
  offer_made : (o : Order) (x : Transition) (t : Option TransactionId) → id_at c (proposals es + 1) ≡ t → NoneStands (propose_refusals scheme c (holding scheme c es) o)
      → In x (transitions_made (new_transfer_verdict scheme c es (content_of o) t)) → RegistryMove scheme c es (Propose o) x
  offer_made o x None e none h = absurd h
  offer_made o x (Some t) e none h =
      let k = content_of o in
      let to = decide.moved t (Some k) 0 (initiator_sends c t (Some k) column.Propose) in
      let last = newest (transitions_of es) t in
      let g = by_row_made scheme es to (initiator_row (known last) column.Propose) x h in
      let m = initiator_proposes (known last) g.0 g.1 in
      subst (λ y. RegistryMove scheme c es (Propose o) y) (ap to (sym m.1) ∙ g.2) (proposes o t none e (nothing_known last m.0))

  arrival_made : (p : ProposalMessage) (moment : Moment) (last : Option Transition) (found : List ℕ) (x : Transition) → p.from ≡ Itl → p.status ≡ proposal.Checked → newest (transitions_of es) p.id ≡ last
      → same_code p.id.code c ≡ false → same_code p.content.acquirer c ≡ true → found ≡ acquirer_findings scheme c (holding scheme c es) p.content
      → In x (transitions_made (arrival scheme c es p.id last p.content moment.seconds found)) → RegistryMove scheme c es (Received (message.proposal p) moment) x
  arrival_made p moment None [] x f s e a b is h =
      subst (λ y. RegistryMove scheme c es (Received (message.proposal p) moment) y) (only _ x (enters_made scheme es _ x h)) (arrives p moment [] f s is e a b)
  arrival_made p moment None (y ∷ ys) x f s e a b is h =
      subst (λ y. RegistryMove scheme c es (Received (message.proposal p) moment) y) (only _ x (enters_made scheme es _ x h)) (arrives p moment (y ∷ ys) f s is e a b)
  arrival_made p moment (Some q) found x f s e a b is h =
      let input = decide.column_of_proposal (content_in (Some q)) found in
      let g = by_row_made scheme es (decide.moved p.id (Some p.content) moment.seconds (acquirer_sends c p.id found input)) (acquirer_row (known (Some q)) input) x h in
      absurd (acquirer_offered q found g.0 g.1)

  -- a notification to the initiator
  conclude_made : (n : NotificationMessage) (moment : Moment) (last : Option Transition) (x : Transition) → n.from ≡ Itl → newest (transitions_of es) n.id ≡ last → same_code n.id.code c ≡ true
      → In x (transitions_made (by_row scheme es (decide.moved n.id (content_in last) moment.seconds (initiator_sends c n.id (content_in last) (Notified (notified_status n.notified)))) (initiator_row (known last) (Notified (notified_status n.notified)))))
      → RegistryMove scheme c es (Received (message.notification n) moment) x
  conclude_made n moment last x f e a h =
      let told = notified_status n.notified in
      let ms = initiator_sends c n.id (content_in last) (Notified told) in
      let g = by_row_made scheme es (decide.moved n.id (content_in last) moment.seconds ms) (initiator_row (known last) (Notified told)) x h in
      let k = initiator_notified (known last) told g.0 g.1 in
      let r = status_known last k.0 k.1 in
      let q = r.last in
      let row : initiator_row (Stands q.new) (Notified told) ≡ Move g.0 = ap (λ z. initiator_row z (Notified told)) (ap Stands r.new ∙ sym k.1) ∙ g.1 in
      let id : q.id ≡ n.id = of_newest (transitions_of es) n.id q (e ∙ r.is) in
      let content : q.content ≡ content_in last = sym (ap content_in r.is) in
      let sent : concluded_messages c q.id g.0 ≡ ms = ap (λ z. concluded_messages c z g.0) id ∙ sym (concluded_sends c n.id (content_in last) q.new told g.0 row) in
      subst (λ y. RegistryMove scheme c es (Received (message.notification n) moment) y)
      (same_moved q.id n.id q.content (content_in last) moment.seconds (concluded_messages c q.id g.0) ms g.0 id content sent ∙ g.2)
      (concludes n moment q g.0 f (e ∙ r.is) a row)

  -- a notification to the acquirer
  finish_made : (n : NotificationMessage) (moment : Moment) (last : Option Transition) (x : Transition) → n.from ≡ Itl → newest (transitions_of es) n.id ≡ last → same_code n.id.code c ≡ false
      → In x (transitions_made (by_row scheme es (decide.moved n.id (content_in last) moment.seconds []) (unless_held (holds_some scheme c (transitions_of es) (content_in last)) (acquirer_row (known last) (Notified (notified_status n.notified))))))
      → RegistryMove scheme c es (Received (message.notification n) moment) x
  finish_made n moment last x f e a h =
      let told = notified_status n.notified in
      let held = holds_some scheme c (transitions_of es) (content_in last) in
      let g = by_row_made scheme es (decide.moved n.id (content_in last) moment.seconds []) (unless_held held (acquirer_row (known last) (Notified told))) x h in
      let u = unless_moves held (acquirer_row (known last) (Notified told)) g.0 g.1 in
      elim (acquirer_notified (known last) told g.0 u.0) [
        | inl k ↦
            let r = status_known last k.0 k.1 in
            let q = r.last in
            let row : acquirer_row (Stands q.new) (Notified told) ≡ Move g.0 = ap (λ z. acquirer_row z (Notified told)) (ap Stands r.new ∙ sym k.1) ∙ u.0 in
            let id : q.id ≡ n.id = of_newest (transitions_of es) n.id q (e ∙ r.is) in
            let content : q.content ≡ content_in last = sym (ap content_in r.is) in
            subst (λ y. RegistryMove scheme c es (Received (message.notification n) moment) y)
            (same_moved q.id n.id q.content (content_in last) moment.seconds [] [] g.0 id content refl ∙ g.2)
            (finishes n moment q g.0 f (e ∙ r.is) a row (subst (λ z. (same_status g.0 Completed && holds_some scheme c (transitions_of es) z) ≡ false) (sym content) u.1))
        | inr k ↦
            let none = nothing_known last k.0 in
            subst (λ y. RegistryMove scheme c es (Received (message.notification n) moment) y)
            (same_moved n.id n.id None (content_in last) moment.seconds [] [] Cancelled refl (sym (ap content_in none)) refl ∙ ap (decide.moved n.id (content_in last) moment.seconds []) (sym k.2) ∙ g.2)
            (bares n moment f k.1 (e ∙ none) a)
      ]

  notified_made : (n : NotificationMessage) (moment : Moment) (last : Option Transition) (x : Transition) → n.from ≡ Itl → newest (transitions_of es) n.id ≡ last
      → In x (transitions_made (in_role scheme c es n.id last moment.seconds (Notified (notified_status n.notified)))) → RegistryMove scheme c es (Received (message.notification n) moment) x
  notified_made n moment last x f e h =
      elim (choice_made (same_code n.id.code c) _ _ x h) [
        | inl i ↦ conclude_made n moment last x f e i.0 i.1
        | inr i ↦ finish_made n moment last x f e i.0 i.1
      ]

  -- a request never goes to a registry
  unasked : (t : TransactionId) (last : Option Transition) (moment : ℕ) (x : Transition) → In x (transitions_made (in_role scheme c es t last moment column.Request)) → ⊥
  unasked t last moment x h =
      elim (choice_made (same_code t.code c) _ _ x h) [
        | inl i ↦ let g = by_row_made scheme es _ _ x i.1 in initiator_unasked (known last) g.0 g.1
        | inr i ↦
            let g = by_row_made scheme es _ _ x i.1 in
            let u = unless_moves (holds_some scheme c (transitions_of es) (content_in last)) (acquirer_row (known last) column.Request) g.0 g.1 in
            acquirer_unasked (known last) g.0 u.0
      ]

  request_made : (t : TransactionId) (last : Option Transition) (again : Bool) (x : Transition) → newest (transitions_of es) t ≡ last → same_code t.code c ≡ true
      → In x (transitions_made (in_role scheme c es t last 0 (cond again column.RepeatedRequestOrder column.RequestOrder))) → RegistryMove scheme c es (Request t) x
  request_made t last true x e own h =
      elim (choice_made (same_code t.code c) _ _ x h) [
        | inl i ↦ let g = by_row_made scheme es _ _ x i.1 in absurd (initiator_asks_once (known last) g.0 g.1)
        | inr i ↦ absurd (let z : true ≡ false = sym own ∙ i.0 in cc (z))
      ]
  request_made t last false x e own h =
      elim (choice_made (same_code t.code c) _ _ x h) [
        | inl i ↦
            let ms = initiator_sends c t (content_in last) column.RequestOrder in
            let g = by_row_made scheme es (decide.moved t (content_in last) 0 ms) (initiator_row (known last) column.RequestOrder) x i.1 in
            let k = initiator_asks (known last) g.0 g.1 in
            let r = status_known last Proposed k.0 in
            let q = r.last in
            let id : q.id ≡ t = of_newest (transitions_of es) t q (e ∙ r.is) in
            let content : q.content ≡ content_in last = sym (ap content_in r.is) in
            subst (λ y. RegistryMove scheme c es (Request t) y)
            (same_moved q.id t q.content (content_in last) 0 (requests (Registry c) Itl q.id ∷ []) ms Proposed id content (ap (λ z. requests (Registry c) Itl z ∷ []) id) ∙ ap (decide.moved t (content_in last) 0 ms) (sym k.1) ∙ g.2)
            (asks t q (e ∙ r.is) own r.new)
        | inr i ↦ absurd (let z : true ≡ false = sym own ∙ i.0 in cc (z))
      ]

  checked_told : (s : ProposalStatus) → not (is_checked s) ≡ false → s ≡ proposal.Checked
  checked_told proposal.Proposed e = absurd (cc)
  checked_told proposal.Checked e = refl

  message_made : (m : Message) → Form m → (moment : Moment) (x : Transition) → In x (transitions_made (registry_message scheme c es moment.seconds m)) → RegistryMove scheme c es (Received m moment) x
  message_made m (of_proposal p) moment x h =
      let g = refuse_made (registry_refusals c es (message.proposal p)) _ x h in
      let from = node_of_same p.from Itl (not-false _ g.0.1.0) in
      let own = or_parts (not (same_code p.content.acquirer c)) _ g.0.1.1.0 in
      let foreign = or_parts (same_code p.id.code c) _ own.1 in
      arrival_made p moment (newest (transitions_of es) p.id) (acquirer_findings scheme c (holding scheme c es) p.content) x from (checked_told p.status g.0.1.1.1.1.0) refl foreign.0 (not-false _ own.0) refl g.1
  message_made m (of_notification n) moment x h =
      let g = refuse_made (registry_refusals c es (message.notification n)) _ x h in
      notified_made n moment (newest (transitions_of es) n.id) x (node_of_same n.from Itl (not-false _ g.0.1.0)) refl g.1
  message_made m (of_request r) moment x h =
      let g = refuse_made (registry_refusals c es (message.request r)) _ x h in
      absurd (unasked r.id (newest (transitions_of es) r.id) moment.seconds x g.1)

  acknowledge_made : (key : ℕ) (x : Transition) → In x (transitions_made (acknowledge scheme es key)) → ⊥
  acknowledge_made key x h =
      let g = refuse_made (ack_refusals es key) (cond (is_acknowledged es key) IsRepeat (recorded_if_room scheme es [])) x h in
      elim (choice_made (is_acknowledged es key) IsRepeat (recorded_if_room scheme es []) x g.1) [
        | inl i ↦ i.1
        | inr i ↦ enters_made scheme es [] x i.1
      ]

  pub registry_moves : (input : Input) (x : Transition) → In x (transitions_made (registry_verdict scheme c es input)) → RegistryMove scheme c es input x
  registry_moves (Propose o) x h =
      let g = refuse_made (propose_refusals scheme c (holding scheme c es) o) _ x h in
      offer_made o x (id_at c (proposals es + 1)) refl g.0 g.1
  registry_moves (Request t) x h =
      let g = refuse_made (request_refusals c es t) (in_role scheme c es t (newest (transitions_of es) t) 0 (request_column es t)) x h in
      let own = (and_parts (same_code t.code c) _ (not-false _ g.0.0)).0 in
      request_made t (newest (transitions_of es) t) (is_requested es t) x refl own g.1
  registry_moves (OpenAccount n) x h = let g = refuse_made (open_refusals scheme c es n.value) (recorded_if_room scheme es []) x h in absurd (enters_made scheme es [] x g.1)
  registry_moves (CloseAccount n) x h = let g = refuse_made (close_refusals scheme c es n.value) (recorded_if_room scheme es []) x h in absurd (enters_made scheme es [] x g.1)
  registry_moves (Ack n) x h = absurd (acknowledge_made n.value x h)
  registry_moves (CleanUp t) x h = absurd h
  registry_moves (Eligible d may) x h = absurd h
  registry_moves (Received m moment) x h = message_made m (form m) moment x h

-- the newest transition of an identifier that some transition has
pub newest_some : (xs : List Transition) (x : Transition) → In x xs → (y : Transition) × (newest xs x.id ≡ Some y)
newest_some [] x h = absurd h
newest_some (p ∷ ps) x (inl e) = (p, cond-true (same_id p.id x.id) (Some p) (newest ps x.id) (subst (λ (z : Transition). same_id p.id z.id ≡ true) e (same_id-refl p.id)))
newest_some (p ∷ ps) x (inr i) =
    let rest = newest_some ps x i in
    elim (cases_Bool (same_id p.id x.id)) [
      | inl y ↦ (p, cond-true (same_id p.id x.id) (Some p) (newest ps x.id) y)
      | inr n ↦ (rest.0, cond-false (same_id p.id x.id) (Some p) (newest ps x.id) n ∙ rest.1)
    ]

-- ---- transitions put in ascending order

pub In_put : (q x : Transition) (xs : List Transition) → In x (put_transition q xs) → (q ≡ x) ⊎ In x xs
In_put q x [] (inl e) = inl e
In_put q x [] (inr h) = absurd h
In_put q x (p ∷ ps) h =
    elim (In_cond x (is_lt (id_cmp q.id p.id)) (q ∷ p ∷ ps) (p ∷ put_transition q ps) h) [
      | inl i ↦ i.1
      | inr i ↦
          elim i.1 [
            | inl e ↦ inr (inl e)
            | inr j ↦
                elim (In_put q x ps j) [
                  | inl e ↦ inl e
                  | inr l ↦ inr (inr l)
                ]
          ]
    ]

pub In_by_id : (x : Transition) (xs : List Transition) → In x (by_id xs) → In x xs
In_by_id x [] h = absurd h
In_by_id x (q ∷ qs) h =
    elim (In_put q x (by_id qs) h) [
      | inl e ↦ inl e
      | inr i ↦ inr (In_by_id x qs i)
    ]

-- the newest of each is the newest
pub In_newest : (x : Transition) (xs : List Transition) → In x (newest_of_each xs) → newest xs x.id ≡ Some x
In_newest x [] h = absurd h
In_newest x (p ∷ ps) (inl e) = subst (λ (z : Transition). newest (p ∷ ps) z.id ≡ Some z) e (cond-true (same_id p.id p.id) (Some p) (newest ps p.id) (same_id-refl p.id))
In_newest x (p ∷ ps) (inr h) =
    let i = In_filter (λ y. not (same_id y.id p.id)) (newest_of_each ps) x h in
    let other : same_id p.id x.id ≡ false = elim (cases_Bool (same_id p.id x.id)) [
      | inl y ↦ absurd (let z : same_id x.id p.id ≡ true = subst (λ w. same_id w p.id ≡ true) (id_of_same p.id x.id y) (same_id-refl p.id) in let v : not true ≡ true = ap not (sym z) ∙ i.1 in cc (v))
      | inr n ↦ n
    ] in
    cond-false (same_id p.id x.id) (Some p) (newest ps x.id) other ∙ In_newest x ps i.0

module _ (scheme : Scheme) (es : List Entry) where
  proposal_made : (p : ProposalMessage) (moment : Moment) (last : Option Transition) (found : List ℕ) (x : Transition) → p.from ≡ Registry p.id.code → p.status ≡ proposal.Proposed → newest (transitions_of es) p.id ≡ last
      → is_no_registry scheme p.from ≡ false → found ≡ log_findings scheme (ledger scheme es) p.id.code p.content
      → In x (transitions_made (log.checked scheme es p.id last p.content moment.seconds found)) → LogMove scheme es (Received (message.proposal p) moment) x
  proposal_made p moment None [] x f s e b is h =
      subst (λ y. LogMove scheme es (Received (message.proposal p) moment) y) (only _ x (enters_made scheme es _ x h)) (checks p moment [] f s is e b)
  proposal_made p moment None (y ∷ ys) x f s e b is h =
      subst (λ y. LogMove scheme es (Received (message.proposal p) moment) y) (only _ x (enters_made scheme es _ x h)) (checks p moment (y ∷ ys) f s is e b)
  proposal_made p moment (Some q) found x f s e b is h =
      let input = decide.column_of_proposal (content_in (Some q)) found in
      let g = by_row_made scheme es (decide.moved p.id (Some p.content) moment.seconds (log_sends p.id (Some p.content) found input)) (log_row (known (Some q)) input) x h in
      absurd (log_offered q found g.0 g.1)

  log_notified_made : (n : NotificationMessage) (moment : Moment) (last : Option Transition) (x : Transition) → newest (transitions_of es) n.id ≡ last → is_no_registry scheme n.from ≡ false
      → is_from_another n.from n.id (content_in last) (notified_status n.notified) ≡ false
      → In x (transitions_made (log.told scheme es n.id last (notified_codes n.notified) moment.seconds (Notified (notified_status n.notified)))) → LogMove scheme es (Received (message.notification n) moment) x
  log_notified_made n moment last x e b a h =
      let told = notified_status n.notified in
      let ms = log_sends n.id (content_in last) (notified_codes n.notified) (Notified told) in
      let g = by_row_made scheme es (decide.moved n.id (content_in last) moment.seconds ms) (log_row (known last) (Notified told)) x h in
      let k = log_notified (known last) told g.0 g.1 in
      let r = status_known last k.0 k.1 in
      let q = r.last in
      let row : log_row (Stands q.new) (Notified told) ≡ Move g.0 = ap (λ z. log_row z (Notified told)) (ap Stands r.new ∙ sym k.1) ∙ g.1 in
      let id : q.id ≡ n.id = of_newest (transitions_of es) n.id q (e ∙ r.is) in
      let content : q.content ≡ content_in last = sym (ap content_in r.is) in
      let sent : notifies Itl (told_to q.id r.content g.0) q.id n.notified ∷ [] ≡ ms =
      sym (passed_sends q r.content n.notified g.0 row) ∙ ap (λ z. log_sends z (Some r.content) (notified_codes n.notified) (Notified told)) id
      ∙ ap (λ z. log_sends n.id z (notified_codes n.notified) (Notified told)) (sym r.known ∙ content) in
      subst (λ y. LogMove scheme es (Received (message.notification n) moment) y)
      (same_moved q.id n.id q.content (content_in last) moment.seconds (notifies Itl (told_to q.id r.content g.0) q.id n.notified ∷ []) ms g.0 id content sent ∙ g.2)
      (passes n moment q r.content g.0 (e ∙ r.is) r.known b (subst (λ z. is_from_another n.from n.id z told ≡ false) (sym content) a) row)

  -- what goes out where the transaction is cancelled
  cancelled_sends : (t : TransactionId) (q : Transition) (k : Content) → q.id ≡ t
      → notifies Itl (Registry q.id.code) q.id notified.Cancelled ∷ notifies Itl (Registry k.acquirer) q.id notified.Cancelled ∷ [] ≡ log_sends t (Some k) [] column.Request
  cancelled_sends t q k id = ap (λ z. notifies Itl (Registry z.code) z notified.Cancelled ∷ notifies Itl (Registry k.acquirer) z notified.Cancelled ∷ []) id

  log_request_made : (r : Asking) (moment : Moment) (last : Option Transition) (x : Transition) → r.from ≡ Registry r.id.code → newest (transitions_of es) r.id ≡ last → is_no_registry scheme r.from ≡ false
      → In x (transitions_made (log.told scheme es r.id last [] moment.seconds column.Request)) → LogMove scheme es (Received (message.request r) moment) x
  log_request_made r moment last x f e b h =
      let ms = log_sends r.id (content_in last) [] column.Request in
      let to = decide.moved r.id (content_in last) moment.seconds ms in
      let g = by_row_made scheme es to (log_row (known last) column.Request) x h in
      let k = log_asked (known last) g.0 g.1 in
      elim k.0 [
        | inl u ↦
            let none = nothing_known last u in
            let content : None ≡ content_in last = sym (ap content_in none) in
            subst (λ y. LogMove scheme es (Received (message.request r) moment) y)
            (same_moved r.id r.id None (content_in last) moment.seconds (log_sends r.id None [] column.Request) ms Cancelled refl content (ap (λ z. log_sends r.id z [] column.Request) content) ∙ ap to (sym k.1) ∙ g.2)
            (forestalls r moment f b (e ∙ none))
        | inr u ↦
            let s = status_known last Checked u in
            let q = s.last in
            let id : q.id ≡ r.id = of_newest (transitions_of es) r.id q (e ∙ s.is) in
            let content : q.content ≡ content_in last = sym (ap content_in s.is) in
            let sent = cancelled_sends r.id q s.content id ∙ ap (λ z. log_sends r.id z [] column.Request) (sym s.known ∙ content) in
            subst (λ y. LogMove scheme es (Received (message.request r) moment) y)
            (same_moved q.id r.id q.content (content_in last) moment.seconds _ ms Cancelled id content sent ∙ ap to (sym k.1) ∙ g.2)
            (cancels (Received (message.request r) moment) moment r.id q s.content (requested r moment f) (e ∙ s.is) s.known s.new)
      ]

  proposed_told : (s : ProposalStatus) → not (is_proposed s) ≡ false → s ≡ proposal.Proposed
  proposed_told proposal.Proposed e = refl
  proposed_told proposal.Checked e = absurd (cc)

  log_message_made : (m : Message) → Form m → (moment : Moment) (x : Transition) → In x (transitions_made (log_message scheme es moment.seconds m)) → LogMove scheme es (Received m moment) x
  log_message_made m (of_proposal p) moment x h =
      let g = refuse_made (log_refusals scheme es (message.proposal p)) _ x h in
      let own = node_of_same p.from (Registry p.id.code) (not-false _ g.0.1.1.0) in
      proposal_made p moment (newest (transitions_of es) p.id) (log_findings scheme (ledger scheme es) p.id.code p.content) x own (proposed_told p.status g.0.1.1.1.1.0) refl g.0.1.0 refl g.1
  log_message_made m (of_notification n) moment x h =
      let g = refuse_made (log_refusals scheme es (message.notification n)) _ x h in
      log_notified_made n moment (newest (transitions_of es) n.id) x refl g.0.1.0 g.0.1.1.1.0 g.1
  log_message_made m (of_request r) moment x h =
      let g = refuse_made (log_refusals scheme es (message.request r)) _ x h in
      let own = node_of_same r.from (Registry r.id.code) (not-false _ g.0.1.1.0) in
      log_request_made r moment (newest (transitions_of es) r.id) x own refl g.0.1.0 g.1

  clean_made : (xs : List Transition) (x : Transition) → In x (transitions_made (clean_up scheme es xs)) → In x xs
  clean_made [] x h = absurd h
  clean_made (q ∷ qs) x h = enters_made scheme es (q ∷ qs) x h

  moved_by_made : (to : Status → Transition) (row : Row) (x : Transition) → In x (moved_by to row) → (new : Status) × (row ≡ Move new) × (to new ≡ x)
  moved_by_made to (Move new) x h = (new, refl, only _ x h)
  moved_by_made to Repeat x h = absurd h
  moved_by_made to Late x h = absurd h
  moved_by_made to Refused x h = absurd h

  -- what a clean-up cancels is Checked
  pub cleaned_made : (moment : ℕ) (q x : Transition) → In x (cleaned moment q) → (k : Content) × (q.content ≡ Some k) × (q.new ≡ Checked) × (cancelled moment q k ≡ x)
  cleaned_made moment q x h =
      let ms = log_sends q.id q.content [] column.CleanUp in
      let to = decide.moved q.id q.content moment ms in
      let g = moved_by_made to (log_row (known (Some q)) column.CleanUp) x h in
      let k = log_cleans (known (Some q)) g.0 g.1 in
      let r = status_known (Some q) Checked k.0 in
      let same : q ≡ r.last = let e = r.is in cc (e) in
      let content : q.content ≡ Some r.content = ap (λ (z : Transition). z.content) same ∙ r.known in
      let sent = cancelled_sends q.id q r.content refl ∙ ap (λ z. log_sends q.id z [] column.CleanUp) (sym content) in
      (r.content, content, ap (λ (z : Transition). z.new) same ∙ r.new, same_moved q.id q.id q.content q.content moment _ ms Cancelled refl refl sent ∙ ap to (sym k.1) ∙ g.2)

  pub log_moves : (input : Input) (x : Transition) → In x (transitions_made (log_verdict scheme es input)) → LogMove scheme es input x
  log_moves (CleanUp moment) x h =
      let all = transitions_of es in
      let old = filter (is_old moment.seconds) (newest_of_each all) in
      let g = In_flat_map (cleaned moment.seconds) x (by_id old) (clean_made (expired all moment.seconds) x h) in
      let i = In_filter (is_old moment.seconds) (newest_of_each all) g.0 (In_by_id g.0 old g.1) in
      let m = cleaned_made moment.seconds g.0 x g.2 in
      subst (λ q. LogMove scheme es (CleanUp moment) q) m.3 (cancels (CleanUp moment) moment g.0.id g.0 m.0 (cleans moment g.0.id) (In_newest g.0 all i.0) m.1 m.2)
  log_moves (Eligible c may) x h =
      let g = refuse_made (eligible_refusals scheme c) (cond (same_bool (is_eligible scheme es c) may) IsRepeat (recorded_if_room scheme es [])) x h in
      elim (choice_made (same_bool (is_eligible scheme es c) may) IsRepeat (recorded_if_room scheme es []) x g.1) [
        | inl i ↦ absurd i.1
        | inr i ↦ absurd (enters_made scheme es [] x i.1)
      ]
  log_moves (Ack n) x h =
      let g = refuse_made (ack_refusals es n.value) (cond (is_acknowledged es n.value) IsRepeat (recorded_if_room scheme es [])) x h in
      elim (choice_made (is_acknowledged es n.value) IsRepeat (recorded_if_room scheme es []) x g.1) [
        | inl i ↦ absurd i.1
        | inr i ↦ absurd (enters_made scheme es [] x i.1)
      ]
  log_moves (Received m moment) x h = log_message_made m (form m) moment x h
  log_moves (Propose o) x h = absurd h
  log_moves (Request t) x h = absurd h
  log_moves (OpenAccount n) x h = absurd h
  log_moves (CloseAccount n) x h = absurd h
