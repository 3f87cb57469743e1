-- The steps of a transfer, each in one causal family of histories: where a message that was sent is settled, the next
-- one was sent. What would be recorded is not settled, so a row of a table that moves the transfer is refuted.
use Rattle.std.proofs.Common.{◌≡◌, List, Bool, true, false, cond, Option, Some, None, ◌⊎◌, inl, inr, refl, sym, ap, subst, ◌∙◌, length}
use Rattle.std.specs.Prelude.{nat_le}
use Rattle.units.proofs.Same.{same_code-refl}
use Rattle.units.specs.Code.{same_code}
use Rattle.units.specs.RefusalCodes.{journal_full}
use Rattle.units.specs.declared.code.Node.{Node}
use Rattle.units.specs.declared.code.Node.TheVariants.{Itl, Registry}
use Rattle.status.specs.Content.{Content}
use Rattle.status.specs.Rows.{initiator_row, log_row, acquirer_row}
use Rattle.status.specs.declared.id.TransactionId.{TransactionId}
use Rattle.status.specs.declared.moment.Moment.{Moment}
use Rattle.status.specs.declared.status.Status.{Status}
use Rattle.status.specs.declared.status.Status.TheVariants.{Proposed, Checked, Accepted, Rejected, Terminated, Cancelled, Completed}
use Rattle.wire.specs.NotifiedStatuses.{notified_status}
use Rattle.wire.specs.declared.input.Input.TheVariants.{Received}
use Rattle.wire.specs.declared.message.Message.{Message}
use Rattle.wire.specs.declared.notified.NotifiedStatus.{NotifiedStatus}
use Rattle.scheme.specs.declared.registries.Scheme.{Scheme}
use Rattle.protocol.specs.Claims.{IsEnd}
use Rattle.protocol.specs.Deciding.{Verdict, IsRecorded, IsRefused, recorded_if_room}
use Rattle.protocol.specs.Effects.{notifies, proposes}
use Rattle.protocol.specs.History.{Entry, Transition, newest, sends, transitions_of}
use Rattle.protocol.specs.Verdict.{verdict}
use Rattle.safety.proofs.AgreementOfNodes.CausalHistories.{Causal, completed_agrees, ended, heard_sent, log_said}
use Rattle.safety.proofs.AgreementOfNodes.CompletionsAgree.{stands_so}
use Rattle.safety.proofs.OneLog.LogHearings.{IsAgreed, log_backed, log_offered}
use Rattle.safety.proofs.OneRegistry.InitiatorStatuses.{own_statuses, IsOwnStatus}
use Rattle.safety.proofs.OneRegistry.RegistryHearings.{Cause, IsTaken, accepted_sent, told}
use Rattle.safety.proofs.OneRegistry.TransactionEnds.{completed_sent, ends_last, proposer}
use Rattle.safety.proofs.MovesAndHistories.NewestTransitions.{newest_id}
use Rattle.safety.proofs.OneTransfer.SentByTransitions.{Tells, transition_sends}
use Rattle.safety.proofs.WorldLemmas.NodesWithStation.{Unplaced}
use Rattle.units.proofs.Lists.Membership.{In}
use Rattle.units.proofs.Lists.OneValue.{one_some}
use Rattle.safety.specs.Rounds.{ChangesNothing}
use Rattle.safety.proofs.OneTransfer.MessageRows.{Last, acquirer_takes, acquirer_takes_offer, initiator_takes, log_takes_notified, log_takes_offer}
use Rattle.safety.proofs.OneTransfer.StagesAtNodes.{Stage, table_at, log_content, id_at, told_by, log_tells, own_offer, other_tells, IsAnswer, answered_to, answer_row, answer_says, acquirer_content, taken_at}
use Rattle.wire.specs.declared.message.ProposalStatus.TheVariants as proposal
use Rattle.protocol.proofs.MessageForms as message

abbrev pub Settled : Scheme → (Node → List Entry) → Message → Type 0
Settled scheme f m = (moment : Moment) × ChangesNothing (verdict scheme m.to (f m.to) (Received m moment))

-- what would be recorded, or refused for a full journal, isn't settled
pub not_settled : (scheme : Scheme) (es : List Entry) (xs : List Transition) (v : Verdict) → v ≡ recorded_if_room scheme es xs → ChangesNothing v → ⊥
not_settled scheme es xs v e h = go (nat_le scheme.records (length es)) (subst ChangesNothing e h)
  where
    go : (b : Bool) → ChangesNothing (cond b (IsRefused journal_full) (IsRecorded xs)) → ⊥
    go true (inl e) = cc (e)
    go true (inr e) = cc (e)
    go false (inl e) = cc (e)
    go false (inr e) = cc (e)

module _ (scheme : Scheme) (f : Node → List Entry) (t : TransactionId) (k : Content) where
  -- the log has passed the proposal on
  abbrev pub PassedOn : Type 0
  PassedOn = In (proposes Itl (Registry k.acquirer) t proposal.Checked k) (sends (f Itl))

  -- the acquirer has answered
  pub record Replied : Type 0 where
    pub status : Status
    pub which : (status ≡ Accepted) ⊎ (status ≡ Rejected)
    pub said : NotifiedStatus
    pub says : notified_status said ≡ status
    pub sent : In (notifies (Registry k.acquirer) Itl t said) (sends (f (Registry k.acquirer)))

  -- the log has answered the initiator
  pub record Answered : Type 0 where
    pub status : Status
    pub which : IsAnswer status
    pub said : NotifiedStatus
    pub says : notified_status said ≡ status
    pub sent : In (notifies Itl (Registry t.code) t said) (sends (f Itl))

  -- the log has told the acquirer of the completion
  pub record ToldAcquirer : Type 0 where
    pub said : NotifiedStatus
    pub says : notified_status said ≡ Completed
    pub sent : In (notifies Itl (Registry k.acquirer) t said) (sends (f Itl))

module _ (scheme : Scheme) (f : Node → List Entry) (causal : Causal scheme f) (unplaced : Unplaced scheme f) (t : TransactionId) (x : Transition) (k : Content) (s : Stage scheme f t x k) where
  abbrev pub Past : Type 0
  Past = Answered scheme f t k ⊎ (x.new ≡ Completed)

  -- where the log has completed, the initiator has
  pub log_completed : (l : Transition) → Last f Itl t l → l.new ≡ Completed → x.new ≡ Completed
  log_completed l log done =
      let h = (proposer scheme (f Itl) (causal.made Itl) t l log (λ e. let y : Completed ≡ Cancelled = sym done ∙ e in cc (y))).ended done in
      let d = completed_sent scheme t.code (f (Registry t.code)) (causal.made (Registry t.code)) h.notification (heard_sent scheme f causal Itl (Registry t.code) t Completed refl h) h.told in
      let last : Last f (Registry t.code) t d.0 =
      subst (λ z. Last f (Registry t.code) z d.0) (d.2 ∙ h.about) (ends_last scheme t.code (f (Registry t.code)) (causal.made (Registry t.code)) d.0 d.1 d.3) in
      let same : d.0 ≡ x = one_some d.0 x (sym last ∙ s.is) in
      sym (ap (λ (z : Transition). z.new) same) ∙ d.3

  answered : (l : Transition) → Last f Itl t l → (st : Status) → l.new ≡ st → IsAnswer st → Past
  answered l log st e a =
      let says = answer_says l st a (log_tells scheme f causal t x k s l log st e) in
      inl (record {
        status = st;
        which = a;
        said = says.0;
        says = says.1;
        sent = told_by scheme f causal t x k s Itl l (Registry t.code) says.0 log (subst (λ (z : TransactionId). In (notifies Itl (Registry z.code) l.id says.0) l.messages) (id_at scheme f causal t x k s Itl l log).1 says.2);
      })

  pub log_answered : (l : Transition) → Last f Itl t l → (st : Status) → l.new ≡ st → (st ≡ Checked → ⊥) → Past
  log_answered l log Proposed e other = absurd (log_tells scheme f causal t x k s l log Proposed e)
  log_answered l log Checked e other = absurd (other refl)
  log_answered l log Accepted e other = answered l log Accepted e tt
  log_answered l log Rejected e other = answered l log Rejected e tt
  log_answered l log Terminated e other = answered l log Terminated e tt
  log_answered l log Cancelled e other = answered l log Cancelled e tt
  log_answered l log Completed e other = inr (log_completed l log e)

  -- where the log stands Checked, it has passed the proposal on
  pub passed_on : (l : Transition) → Last f Itl t l → l.new ≡ Checked → PassedOn scheme f t k
  passed_on l log e =
      let says = log_tells scheme f causal t x k s l log Checked e in
      let same : says.0 ≡ k = one_some says.0 k (sym says.1 ∙ log_content scheme f causal t x k s l log (λ d. let y : Checked ≡ Cancelled = sym e ∙ d in cc (y))) in
      let id = id_at scheme f causal t x k s Itl l log in
      subst (λ z. In (proposes Itl (Registry k.acquirer) z proposal.Checked k) (sends (f Itl))) id.1
      (transition_sends (f Itl) l (proposes Itl (Registry k.acquirer) l.id proposal.Checked k) id.0
      (subst (λ (z : Content). In (proposes Itl (Registry z.acquirer) l.id proposal.Checked z) l.messages) same says.2))

  -- 1: the log has settled the proposal
  pub first_step : Settled scheme f (proposes (Registry t.code) Itl t proposal.Proposed k) → PassedOn scheme f t k ⊎ Past
  first_step settled = by (newest (transitions_of (f Itl)) t) refl
    where
      at : (l : Transition) → Last f Itl t l → (st : Status) → l.new ≡ st → PassedOn scheme f t k ⊎ Past
      at l log Checked e = inl (passed_on l log e)
      at l log Proposed e = inr (log_answered l log Proposed e (λ d. cc (d)))
      at l log Accepted e = inr (log_answered l log Accepted e (λ d. cc (d)))
      at l log Rejected e = inr (log_answered l log Rejected e (λ d. cc (d)))
      at l log Terminated e = inr (log_answered l log Terminated e (λ d. cc (d)))
      at l log Cancelled e = inr (log_answered l log Cancelled e (λ d. cc (d)))
      at l log Completed e = inr (log_answered l log Completed e (λ d. cc (d)))

      by : (o : Option Transition) → newest (transitions_of (f Itl)) t ≡ o → PassedOn scheme f t k ⊎ Past
      by None none = absurd (not_settled scheme (f Itl) _ _ (log_takes_offer scheme f causal unplaced settled.0 t.code t k (own_offer scheme f causal t x k s) none) settled.1)
      by (Some l) log = at l log l.new refl

  -- what the acquirer knows, it has replied to, or the log has answered
  pub replied_or_past : (p : Transition) → Last f (Registry k.acquirer) t p → Replied scheme f t k ⊎ Past
  replied_or_past p here = at p here p.new refl (told scheme k.acquirer (f (Registry k.acquirer)) (causal.made (Registry k.acquirer)) t p here s.other)
    where
      replied : (p : Transition) → Last f (Registry k.acquirer) t p → (st : Status) → (st ≡ Accepted) ⊎ (st ≡ Rejected) → Tells p (Registry k.acquirer) Itl st → Replied scheme f t k ⊎ Past
      replied p at st which says = inl (record { status = st; which = which; said = says.0; says = says.1; sent = told_by scheme f causal t x k s (Registry k.acquirer) p Itl says.0 at says.2 })

      ended_there : (st : Status) → (st ≡ Checked → ⊥) → (st ≡ Accepted → ⊥) → (l : Transition) × Last f Itl t l × ((l.new ≡ st) ⊎ ((st ≡ Accepted) × (l.new ≡ Completed))) → Replied scheme f t k ⊎ Past
      ended_there st a b l = inr (log_answered l.0 l.1 l.0.new refl (λ d. elim l.2 [ inl c ↦ a (sym c ∙ d) | inr c ↦ b c.0 ]))

      at : (p : Transition) → Last f (Registry k.acquirer) t p → (st : Status) → p.new ≡ st → Cause k.acquirer (f (Registry k.acquirer)) t st → Replied scheme f t k ⊎ Past
      at p here Accepted e h = replied p here Accepted (inl refl) (other_tells scheme f causal t x k s p here Accepted e)
      at p here Rejected e h = replied p here Rejected (inr refl) (other_tells scheme f causal t x k s p here Rejected e)
      at p here Completed e h = ended_there Completed (λ d. cc (d)) (λ d. cc (d)) (log_said scheme f causal refl (Registry k.acquirer) t Completed h)
      at p here Cancelled e h = ended_there Cancelled (λ d. cc (d)) (λ d. cc (d)) (log_said scheme f causal refl (Registry k.acquirer) t Cancelled h)
      at p here Proposed e h = absurd h
      at p here Checked e h = absurd h
      at p here Terminated e h = absurd h

  -- 2: the acquirer has settled the proposal
  pub second_step : PassedOn scheme f t k → Settled scheme f (proposes Itl (Registry k.acquirer) t proposal.Checked k) → Replied scheme f t k ⊎ Past
  second_step sent settled = by (newest (transitions_of (f (Registry k.acquirer))) t) refl
    where
      by : (o : Option Transition) → newest (transitions_of (f (Registry k.acquirer))) t ≡ o → Replied scheme f t k ⊎ Past
      by None none = absurd (not_settled scheme (f (Registry k.acquirer)) _ _ (acquirer_takes_offer scheme f causal unplaced settled.0 k.acquirer t k sent none) settled.1)
      by (Some p) here = replied_or_past p here

  -- 3: the log has settled the reply
  pub third_step : PassedOn scheme f t k → (r : Replied scheme f t k) → Settled scheme f (notifies (Registry k.acquirer) Itl t r.said) → Past
  third_step passed r settled =
      let o = log_offered scheme (f Itl) (causal.made Itl) (record { from = Itl; to = Registry k.acquirer; id = t; status = proposal.Checked; content = k }) passed in
      at o.0 o.1 o.2 o.0.new refl
    where
      at : (l : Transition) → Last f Itl t l → l.content ≡ Some k → (st : Status) → l.new ≡ st → Past
      at l log content Checked e =
          elim r.which [
            | inl a ↦ absurd (not_settled scheme (f Itl) _ _ (log_takes_notified scheme f causal unplaced settled.0 k.acquirer t r.said l k Accepted content r.sent log (table_at log_row l.new Checked _ Accepted e (r.says ∙ a))) settled.1)
            | inr a ↦ absurd (not_settled scheme (f Itl) _ _ (log_takes_notified scheme f causal unplaced settled.0 k.acquirer t r.said l k Rejected content r.sent log (table_at log_row l.new Checked _ Rejected e (r.says ∙ a))) settled.1)
          ]
      at l log content Proposed e = log_answered l log Proposed e (λ d. cc (d))
      at l log content Accepted e = log_answered l log Accepted e (λ d. cc (d))
      at l log content Rejected e = log_answered l log Rejected e (λ d. cc (d))
      at l log content Terminated e = log_answered l log Terminated e (λ d. cc (d))
      at l log content Cancelled e = log_answered l log Cancelled e (λ d. cc (d))
      at l log content Completed e = log_answered l log Completed e (λ d. cc (d))

  -- 4: the initiator has settled the answer
  pub fourth_step : (a : Answered scheme f t k) → Settled scheme f (notifies Itl (Registry t.code) t a.said) → IsEnd x.new
  fourth_step a settled =
      let id = newest_id (transitions_of (f (Registry t.code))) t x s.is in
      at x.new refl (own_statuses scheme t.code (f (Registry t.code)) (causal.made (Registry t.code)) x id.0 (subst (λ (z : TransactionId). same_code z.code t.code ≡ true) (sym id.1) (same_code-refl t.code)))
    where
      at : (st : Status) → x.new ≡ st → IsOwnStatus st → IsEnd st
      at Proposed e own = absurd (not_settled scheme (f (Registry t.code)) _ _ (initiator_takes scheme f causal unplaced settled.0 t.code t a.said x k (answered_to a.status) s.content a.sent s.is (same_code-refl t.code) (table_at initiator_row x.new Proposed _ a.status e a.says ∙ answer_row a.status a.which)) settled.1)
      at Checked e own = absurd own
      at Accepted e own = absurd own
      at Rejected e own = tt
      at Terminated e own = tt
      at Cancelled e own = tt
      at Completed e own = tt

  -- where the log stands Completed, it has told the acquirer
  pub told_acquirer : (l : Transition) → Last f Itl t l → l.new ≡ Completed → ToldAcquirer scheme f t k
  told_acquirer l log e =
      let tells = log_tells scheme f causal t x k s l log Completed e in
      let says = tells.2 in
      let named : tells.0 ≡ k = one_some tells.0 k (sym tells.1 ∙ log_content scheme f causal t x k s l log (λ d. let y : Completed ≡ Cancelled = sym e ∙ d in cc (y))) in
      record {
        said = says.0;
        says = says.1;
        sent = told_by scheme f causal t x k s Itl l (Registry k.acquirer) says.0 log (subst (λ (z : Content). In (notifies Itl (Registry z.acquirer) l.id says.0) l.messages) named says.2);
      }

  -- 5: the log has settled the completion of the initiator
  pub fifth_step : x.new ≡ Completed → (said : NotifiedStatus) → notified_status said ≡ Completed → In (notifies (Registry t.code) Itl t said) (sends (f (Registry t.code))) → Settled scheme f (notifies (Registry t.code) Itl t said) → ToldAcquirer scheme f t k
  fifth_step done said says sent settled =
      let agrees = completed_agrees scheme f causal refl (Registry t.code) t (stands_so (transitions_of (f (Registry t.code))) t x Completed s.is done) in
      at agrees.0 agrees.1 agrees.0.new refl agrees.2
    where
      at : (l : Transition) → Last f Itl t l → (st : Status) → l.new ≡ st → IsAgreed st → ToldAcquirer scheme f t k
      at l log Accepted e a =
          absurd (not_settled scheme (f Itl) _ _ (log_takes_notified scheme f causal unplaced settled.0 t.code t said l k Completed (log_content scheme f causal t x k s l log (λ d. let y : Accepted ≡ Cancelled = sym e ∙ d in cc (y))) sent log (table_at log_row l.new Accepted _ Completed e says)) settled.1)
      at l log Completed e a = told_acquirer l log e
      at l log Proposed e a = absurd a
      at l log Checked e a = absurd a
      at l log Rejected e a = absurd a
      at l log Terminated e a = absurd a
      at l log Cancelled e a = absurd a

  -- where the initiator has completed, the acquirer has accepted
  pub taken_there : x.new ≡ Completed → (p : Transition) × Last f (Registry k.acquirer) t p × ((p.new ≡ Accepted) ⊎ (p.new ≡ Completed))
  taken_there done =
      let agrees = completed_agrees scheme f causal refl (Registry t.code) t (stands_so (transitions_of (f (Registry t.code))) t x Completed s.is done) in
      let b = log_backed scheme (f Itl) (causal.made Itl) t agrees.0 agrees.1 agrees.2 in
      let content : b.content ≡ k = one_some b.content k (sym b.known ∙ log_content scheme f causal t x k s agrees.0 agrees.1 (λ e. subst IsAgreed e agrees.2)) in
      let said : In (message.notification b.heard.notification) (sends (f (Registry k.acquirer))) =
      subst (λ (z : Content). In (message.notification b.heard.notification) (sends (f (Registry z.acquirer)))) content
      (heard_sent scheme f causal Itl (Registry b.content.acquirer) t Accepted refl b.heard) in
      let taken = accepted_sent scheme k.acquirer (f (Registry k.acquirer)) (causal.made (Registry k.acquirer)) b.heard.notification said b.heard.told in
      let p = taken_at (newest (transitions_of (f (Registry k.acquirer))) t) (subst (λ z. IsTaken (newest (transitions_of (f (Registry k.acquirer))) z)) b.heard.about taken.1) in
      elim p.2 [
        | inl accepted ↦ (p.0, p.1, inl accepted)
        | inr e ↦
            elim e [
              | inl d ↦ (p.0, p.1, inr d)
              | inr d ↦ absurd (ended scheme f causal refl (Registry k.acquirer) t refl agrees (inr (inr (stands_so (transitions_of (f (Registry k.acquirer))) t p.0 Cancelled p.1 d))))
            ]
      ]

  -- 6: the acquirer has settled the completion
  pub sixth_step : x.new ≡ Completed → (told : ToldAcquirer scheme f t k) → Settled scheme f (notifies Itl (Registry k.acquirer) t told.said) → (p : Transition) × Last f (Registry k.acquirer) t p × (p.new ≡ Completed)
  sixth_step done told settled =
      let p = taken_there done in
      elim p.2 [
        | inl accepted ↦
            let has = acquirer_content scheme f causal t x k s p.0 p.1 (λ e. let y : Accepted ≡ Cancelled = sym accepted ∙ e in cc (y)) in
            absurd (not_settled scheme (f (Registry k.acquirer)) _ _ (acquirer_takes scheme f causal unplaced settled.0 k.acquirer t told.said p.0 has.0 Completed has.1 told.sent p.1 s.other (table_at acquirer_row p.0.new Accepted _ Completed accepted told.says)) settled.1)
        | inr d ↦ (p.0, p.1, d)
      ]
