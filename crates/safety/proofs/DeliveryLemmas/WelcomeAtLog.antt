-- The log refuses a message that a registry sent only where the log's journal is full. A refusal has one of a few
-- causes, each a test on the message and the history. The sender recorded the messages that it sent, and each cause is
-- refuted from the sender's history; and the table has a row for the message for each recorded status at the log. Where
-- the log already has an answer of the acquirer, the two answers are compared: no acquirer both accepts and rejects one
-- transfer.
use Rattle.protocol.specs.Checks.{log_findings}
use Rattle.std.proofs.Common.{◌≡◌, Bool, List, true, false, not, Some, None, ◌⊎◌, inl, inr, refl, sym, ap, subst, ◌∙◌}
use Rattle.std.proofs.lemmas.Bool.{cases_Bool}
use Rattle.units.proofs.Same.{code_of_same}
use Rattle.units.specs.Code.{same_code}
use Rattle.units.specs.declared.code.Code.{Code}
use Rattle.units.specs.declared.code.Node.{Node}
use Rattle.units.specs.declared.code.Node.TheVariants.{Itl, Registry}
use Rattle.status.specs.Content.{Content}
use Rattle.status.specs.Rows.{log_row}
use Rattle.status.specs.declared.moment.Moment.{Moment}
use Rattle.status.specs.declared.rows.RecordedStatus.TheVariants.{Stands}
use Rattle.status.specs.declared.rows.Row.TheVariants.{Refused}
use Rattle.status.specs.declared.rows.RowInput.TheVariants.{Notified}
use Rattle.status.specs.declared.status.Status.{Status}
use Rattle.status.specs.declared.status.Status.TheVariants.{Proposed, Checked, Accepted, Rejected, Terminated, Cancelled, Completed}
use Rattle.wire.specs.NotifiedStatuses.{notified_status, notified_codes}
use Rattle.wire.specs.declared.input.Input.TheVariants.{Received}
use Rattle.wire.specs.declared.message.Message.{Message}
use Rattle.protocol.proofs.MessageForms as message
use Rattle.protocol.proofs.MessageForms.{ProposalMessage, NotificationMessage, RequestMessage}
use Rattle.wire.specs.declared.message.ProposalStatus.{ProposalStatus}
use Rattle.wire.specs.declared.message.ProposalStatus.TheVariants as proposal
use Rattle.scheme.specs.declared.registries.Scheme.{Scheme}
use Rattle.protocol.specs.AtLog.{ledger, is_proposed, is_no_registry, is_not_acquirer, is_from_another, told, log_refusals, log_verdict}
use Rattle.protocol.specs.Deciding.{content_in, known}
use Rattle.protocol.specs.History.{Transition, Entry, transitions_of, newest, sends}
use Rattle.protocol.specs.Registries.{has_member}
use Rattle.safety.proofs.AgreementOfNodes.InitiatorRecords.{begun}
use Rattle.safety.proofs.AgreementOfNodes.CausalHistories.{CausalAmong, heard_sent, offered_sent, completed_agrees}
use Rattle.safety.proofs.AgreementOfNodes.CompletionsAgree.{log_has, stands_so}
use Rattle.safety.proofs.OneRegistry.TransactionEnds.{ends_last, offered, completed_sent, proposer, proposer_or_none}
use Rattle.safety.proofs.OneLog.LogSendings.{passed_open, refusal, never_proposed}
use Rattle.safety.proofs.OneRegistry.RegistrySendings.{Says, offers, answers, completes, says, rejected_sent, asks_log}
use Rattle.safety.proofs.MovesAndHistories.NewestTransitions.{Offered, newest_id}
use Rattle.units.proofs.Lists.Membership.{In}
use Rattle.units.proofs.Lists.OneValue.{one_some}
use Rattle.safety.proofs.MovesAndHistories.TableRows.{known_status, status_known, log_offer_row, log_request_row}
use Rattle.safety.proofs.WorldLemmas.NodesWithStation.{Unplaced}
use Rattle.safety.proofs.MovesAndHistories.RefusalCauses.{welcome_row, Welcome, welcome_refuse, right_node, known_by_newest, no_other}
use Rattle.safety.proofs.OneLog.LogHearings.{IsAgreed, log_backed}
use Rattle.safety.proofs.OneRegistry.RegistryHearings.{IsTaken, accepted_sent}

-- ---- the log's table has a row

completed_row : (now : Status) → IsAgreed now → log_row (Stands now) (Notified Completed) ≡ Refused → ⊥
completed_row Accepted h e = cc (e)
completed_row Completed h e = cc (e)
completed_row Proposed h e = h
completed_row Checked h e = h
completed_row Rejected h e = h
completed_row Terminated h e = h
completed_row Cancelled h e = h

accepted_row : (now : Status) → (now ≡ Proposed → ⊥) → (now ≡ Terminated → ⊥) → (now ≡ Rejected → ⊥) → log_row (Stands now) (Notified Accepted) ≡ Refused → ⊥
accepted_row Proposed a b d e = a refl
accepted_row Terminated a b d e = b refl
accepted_row Rejected a b d e = d refl
accepted_row Checked a b d e = cc (e)
accepted_row Accepted a b d e = cc (e)
accepted_row Completed a b d e = cc (e)
accepted_row Cancelled a b d e = cc (e)

rejected_row : (now : Status) → (now ≡ Proposed → ⊥) → (now ≡ Terminated → ⊥) → (IsAgreed now → ⊥) → log_row (Stands now) (Notified Rejected) ≡ Refused → ⊥
rejected_row Proposed a b d e = a refl
rejected_row Terminated a b d e = b refl
rejected_row Accepted a b d e = d tt
rejected_row Completed a b d e = d tt
rejected_row Checked a b d e = cc (e)
rejected_row Rejected a b d e = cc (e)
rejected_row Cancelled a b d e = cc (e)

taken_not_rejected : (s : Status) → s ≡ Rejected → (s ≡ Accepted) ⊎ ((s ≡ Completed) ⊎ (s ≡ Cancelled)) → ⊥
taken_not_rejected s e (inl h) = let y : Accepted ≡ Rejected = sym h ∙ e in cc (y)
taken_not_rejected s e (inr (inl h)) = let y : Completed ≡ Rejected = sym h ∙ e in cc (y)
taken_not_rejected s e (inr (inr h)) = let y : Cancelled ≡ Rejected = sym h ∙ e in cc (y)

module _ {trusted : Node → Bool} (scheme : Scheme) (f : Node → List Entry) (causal : CausalAmong trusted scheme f) (log : trusted Itl ≡ true) (unplaced : Unplaced scheme f) where
  sender_member : (c : Code) (m : Message) → In m (sends (f (Registry c))) → is_no_registry scheme (Registry c) ≡ false
  sender_member c m h =
      elim (cases_Bool (has_member scheme c)) [
        | inl y ↦ ap not y
        | inr n ↦ absurd (subst (λ (es : List Entry). In m (sends es)) (unplaced (Registry c) n) h)
      ]

  -- ---- an offer

  -- the log knows the content that was offered
  known_content : (c : Code) (p : ProposalMessage) → trusted (Registry c) ≡ true → In (message.proposal p) (sends (f (Registry c))) → (x : Transition) (k : Content) → newest (transitions_of (f Itl)) p.id ≡ Some x → x.content ≡ Some k → x.content ≡ Some p.content
  known_content c p trust h x k e content =
      let mine = offered scheme c (f (Registry c)) (causal.made (Registry c)) p h in
      let code : p.id.code ≡ c = code_of_same p.id.code c mine.3 in
      let b = begun scheme f causal p.id x (subst (λ z. trusted (Registry z) ≡ true) (sym code) trust) e (λ z. let y = sym content ∙ z.content in cc (y)) in
      let there : newest (transitions_of (f (Registry c))) p.id ≡ Some b.last = subst (λ z. newest (transitions_of (f (Registry z))) p.id ≡ Some b.last) code b.is in
      let same : b.last ≡ mine.0 = one_some b.last mine.0 (sym there ∙ mine.1) in
      b.known ∙ sym b.there ∙ ap (λ (z : Transition). z.content) same ∙ mine.2

  known_offer : (c : Code) (p : ProposalMessage) → trusted (Registry c) ≡ true → In (message.proposal p) (sends (f (Registry c))) → (x : Transition) → newest (transitions_of (f Itl)) p.id ≡ Some x → (x.content ≡ None) ⊎ (x.content ≡ Some p.content)
  known_offer c p trust h x e =
      elim (proposer_or_none scheme (f Itl) (causal.made Itl) p.id x e) [
        | inl b ↦ inl b.content
        | inr q ↦ inr (known_content c p trust h x q.content e q.is)
      ]

  offer_welcome : (c : Code) (p : ProposalMessage) (moment : Moment) → trusted (Registry c) ≡ true → p.from ≡ Registry c → p.to ≡ Itl → p.status ≡ proposal.Proposed → same_code p.id.code c ≡ true → In (message.proposal p) (sends (f (Registry c)))
      → Welcome (log_verdict scheme (f Itl) (Received (message.proposal p) moment))
  offer_welcome c p moment trust from to status own h =
      welcome_refuse (log_refusals scheme (f Itl) (message.proposal p)) _ (
        right_node p.to Itl to,
        (
          subst (λ (n : Node). is_no_registry scheme n ≡ false) (sym from) (sender_member c (message.proposal p) h),
          (
            right_node p.from (Registry p.id.code) (from ∙ ap (λ (z : Code). Registry z) (sym (code_of_same p.id.code c own))),
            (no_other (newest (transitions_of (f Itl)) p.id) p.content (known_offer c p trust h), (subst (λ (s : ProposalStatus). not (is_proposed s) ≡ false) (sym status) refl, tt)),
          ),
        ),
      )
      (welcome_row scheme (f Itl) _ _ (log_offer_row (newest (transitions_of (f Itl)) p.id) (log_findings scheme (ledger scheme (f Itl)) p.id.code p.content)))

  -- ---- a notification

  notified_welcome : (c : Code) (n : NotificationMessage) (moment : Moment) (x : Transition) (k : Content) → newest (transitions_of (f Itl)) n.id ≡ Some x → x.content ≡ Some k → n.from ≡ Registry c → n.to ≡ Itl
      → In (message.notification n) (sends (f (Registry c))) → is_from_another (Registry c) n.id x.content (notified_status n.notified) ≡ false
      → (log_row (Stands x.new) (Notified (notified_status n.notified)) ≡ Refused → ⊥) → Welcome (log_verdict scheme (f Itl) (Received (message.notification n) moment))
  notified_welcome c n moment x k last content from to h right row =
      let es = transitions_of (f Itl) in
      let s = notified_status n.notified in
      welcome_refuse (log_refusals scheme (f Itl) (message.notification n)) _ (
        right_node n.to Itl to,
        (
          subst (λ (m : Node). is_no_registry scheme m ≡ false) (sym from) (sender_member c (message.notification n) h),
          (
            known_by_newest es n.id x last,
            (subst (λ o. is_from_another n.from n.id (content_in o) s ≡ false) (sym last) (subst (λ (m : Node). is_from_another m n.id x.content s ≡ false) (sym from) right), tt),
          ),
        ),
      )
      (subst (λ o. Welcome (told scheme (f Itl) n.id o (notified_codes n.notified) moment.seconds (Notified s))) (sym last)
      (welcome_row scheme (f Itl) _ _ (subst (λ z. log_row z (Notified s) ≡ Refused → ⊥) (sym (known_status x k content)) row)))

  completed_welcome : (c : Code) (n : NotificationMessage) (moment : Moment) → n.from ≡ Registry c → n.to ≡ Itl → notified_status n.notified ≡ Completed → same_code n.id.code c ≡ true
      → In (message.notification n) (sends (f (Registry c))) → Welcome (log_verdict scheme (f Itl) (Received (message.notification n) moment))
  completed_welcome c n moment from to said own h =
      let es = f (Registry c) in
      let q = completed_sent scheme c es (causal.made (Registry c)) n h said in
      let last = subst (λ z. newest (transitions_of es) z ≡ Some q.0) q.2 (ends_last scheme c es (causal.made (Registry c)) q.0 q.1 q.3) in
      let a = completed_agrees scheme f causal log (Registry c) n.id (stands_so (transitions_of es) n.id q.0 Completed last q.3) in
      let p = proposer scheme (f Itl) (causal.made Itl) n.id a.0 a.1 (λ e. subst IsAgreed e a.2) in
      notified_welcome c n moment a.0 p.content a.1 p.is from to h
      (subst (λ s. is_from_another (Registry c) n.id a.0.content s ≡ false) (sym said)
      (right_node (Registry c) (Registry n.id.code) (ap (λ (z : Code). Registry z) (sym (code_of_same n.id.code c own)))))
      (subst (λ s. log_row (Stands a.0.new) (Notified s) ≡ Refused → ⊥) (sym said) (completed_row a.0.new a.2))

  -- no acquirer both accepts and rejects
  not_both : (c : Code) (n m : NotificationMessage) → n.id ≡ m.id → notified_status n.notified ≡ Accepted → notified_status m.notified ≡ Rejected → In (message.notification n) (sends (f (Registry c)))
      → In (message.notification m) (sends (f (Registry c))) → ⊥
  not_both c n m same yes_said no_said h i =
      let es = f (Registry c) in
      let a = accepted_sent scheme c es (causal.made (Registry c)) n h yes_said in
      let r = rejected_sent scheme c es (causal.made (Registry c)) m i no_said in
      taken_not_rejected r.0.new r.2 (subst IsTaken (ap (newest (transitions_of es)) same ∙ r.1) a.1)

  answer_welcome : (c : Code) (n : NotificationMessage) (moment : Moment) (k : Content) → trusted (Registry c) ≡ true → n.from ≡ Registry c → n.to ≡ Itl → (notified_status n.notified ≡ Accepted) ⊎ (notified_status n.notified ≡ Rejected)
      → Offered (f (Registry c)) Itl n.id proposal.Checked k → k.acquirer ≡ c → In (message.notification n) (sends (f (Registry c))) → Welcome (log_verdict scheme (f Itl) (Received (message.notification n) moment))
  answer_welcome c n moment k trust from to which got here h =
      let o = log_has scheme f causal log c n.id k got in
      let p = passed_open scheme (f Itl) (causal.made Itl) got.proposal (offered_sent scheme f causal (Registry c) Itl n.id proposal.Checked k log got) in
      let same : p.0 ≡ o.0 = one_some p.0 o.0 (sym (subst (λ z. newest (transitions_of (f Itl)) z ≡ Some p.0) got.about p.1) ∙ o.1) in
      let id = newest_id (transitions_of (f Itl)) n.id o.0 o.1 in
      let started : o.0.new ≡ Proposed → ⊥ = λ e. never_proposed scheme (f Itl) (causal.made Itl) o.0 id.0 e in
      let open_still : o.0.new ≡ Terminated → ⊥ = λ e. p.2 (ap (λ (z : Transition). z.new) same ∙ e) in
      let at_c : (other : Content) → o.0.content ≡ Some other → other.acquirer ≡ c = λ other e. ap (λ (z : Content). z.acquirer) (one_some other k (sym e ∙ o.2)) ∙ here in
      let trust_at : (d : Code) → d ≡ c → trusted (Registry d) ≡ true = λ d e. subst (λ z. trusted (Registry z) ≡ true) (sym e) trust in
      let right : is_not_acquirer (Registry c) o.0.content ≡ false =
      subst (λ z. is_not_acquirer (Registry c) z ≡ false) (sym o.2) (right_node (Registry c) (Registry k.acquirer) (ap (λ (z : Code). Registry z) (sym here))) in
      elim which [
        | inl e ↦
            notified_welcome c n moment o.0 k o.1 o.2 from to h (subst (λ s. is_from_another (Registry c) n.id o.0.content s ≡ false) (sym e) right)
            (subst (λ s. log_row (Stands o.0.new) (Notified s) ≡ Refused → ⊥) (sym e) (accepted_row o.0.new started open_still (λ x.
            let g = refusal scheme (f Itl) (causal.made Itl) n.id o.0 o.1 x in
            not_both c n g.2.notification (sym g.2.about) e g.2.told h (subst (λ z. In (message.notification g.2.notification) (sends (f (Registry z)))) (at_c g.0 g.1) (heard_sent scheme f causal Itl (Registry g.0.acquirer) n.id Rejected (trust_at g.0.acquirer (at_c g.0 g.1)) g.2)))))
        | inr e ↦
            notified_welcome c n moment o.0 k o.1 o.2 from to h (subst (λ s. is_from_another (Registry c) n.id o.0.content s ≡ false) (sym e) right)
            (subst (λ s. log_row (Stands o.0.new) (Notified s) ≡ Refused → ⊥) (sym e) (rejected_row o.0.new started open_still (λ x.
            let g = log_backed scheme (f Itl) (causal.made Itl) n.id o.0 o.1 x in
            not_both c g.heard.notification n g.heard.about g.heard.told e
            (subst (λ z. In (message.notification g.heard.notification) (sends (f (Registry z)))) (at_c g.content g.known) (heard_sent scheme f causal Itl (Registry g.content.acquirer) n.id Accepted (trust_at g.content.acquirer (at_c g.content g.known)) g.heard)) h)))
      ]

  -- ---- a request

  request_welcome : (c : Code) (r : RequestMessage) (moment : Moment) → r.from ≡ Registry c → r.to ≡ Itl → same_code r.id.code c ≡ true → In (message.request r) (sends (f (Registry c)))
      → Welcome (log_verdict scheme (f Itl) (Received (message.request r) moment))
  request_welcome c r moment from to own h =
      let last = newest (transitions_of (f Itl)) r.id in
      welcome_refuse (log_refusals scheme (f Itl) (message.request r)) _ (
        right_node r.to Itl to,
        (
          subst (λ (n : Node). is_no_registry scheme n ≡ false) (sym from) (sender_member c (message.request r) h),
          (right_node r.from (Registry r.id.code) (from ∙ ap (λ (z : Code). Registry z) (sym (code_of_same r.id.code c own))), tt),
        ),
      )
      (welcome_row scheme (f Itl) _ _ (log_request_row (known last) (λ e.
      let q = status_known last Proposed e in
      never_proposed scheme (f Itl) (causal.made Itl) q.last (newest_id (transitions_of (f Itl)) r.id q.last q.is).0 q.new)))

  says_welcome : (c : Code) (m : Message) (moment : Moment) → trusted (Registry c) ≡ true → Says scheme c (f (Registry c)) m → In m (sends (f (Registry c))) → Welcome (log_verdict scheme (f Itl) (Received m moment))
  says_welcome c m moment trust (offers p from to status own) h = offer_welcome c p moment trust from to status own h
  says_welcome c m moment trust (answers n k from to which foreign got here) h = answer_welcome c n moment k trust from to which got here h
  says_welcome c m moment trust (completes n from to said own) h = completed_welcome c n moment from to said own h
  says_welcome c m moment trust (asks_log r from to own) h = request_welcome c r moment from to own h

  pub log_welcome : (c : Code) (m : Message) (moment : Moment) → trusted (Registry c) ≡ true → In m (sends (f (Registry c))) → Welcome (log_verdict scheme (f Itl) (Received m moment))
  log_welcome c m moment trust h = says_welcome c m moment trust (says scheme c (f (Registry c)) (causal.made (Registry c)) m h) h
