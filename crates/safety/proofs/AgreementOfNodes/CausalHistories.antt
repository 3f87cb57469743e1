-- Histories whose received messages were sent agree: where one node stands Completed, no trusted node stands Rejected,
-- Terminated or Cancelled. `CausalAmong` says that each node's history was made by its verdicts, and that each message
-- that it received in the name of a trusted node was sent by that node; `Causal` is the case in which all are trusted.
-- No events appear here. A status at a registry has a cause (`told`), the cause was sent by the log, and the log's
-- status agrees with the messages that it sent (`log_said`). A Completed anywhere therefore puts the log at Accepted or
-- Completed, and any other end anywhere puts it elsewhere. A Rejected at a trusted acquirer is refuted by the Accepted
-- that the same acquirer sent.
use Rattle.std.proofs.Common.{◌≡◌, List, Bool, true, false, Option, Some, None, ◌⊎◌, inl, inr, refl, sym, ap, subst, ◌∙◌}
use Rattle.std.proofs.lemmas.Bool.{cases_Bool}
use Rattle.units.specs.Code.{same_code}
use Rattle.units.specs.declared.code.Code.{Code}
use Rattle.units.specs.declared.code.Node.{Node}
use Rattle.units.specs.declared.code.Node.TheVariants.{Itl, Registry}
use Rattle.status.specs.Content.{Content}
use Rattle.status.specs.declared.id.TransactionId.{TransactionId}
use Rattle.status.specs.declared.status.Status.{Status}
use Rattle.status.specs.declared.status.Status.TheVariants.{Proposed, Accepted, Rejected, Terminated, Cancelled, Completed}
use Rattle.wire.specs.declared.message.Message.{Message}
use Rattle.wire.specs.declared.message.ProposalStatus.{ProposalStatus}
use Rattle.wire.specs.declared.message.ProposalStatus.TheVariants as proposal
use Rattle.protocol.proofs.MessageForms as message
use Rattle.scheme.specs.declared.registries.Scheme.{Scheme}
use Rattle.protocol.specs.Claims.{Agrees, StandsAt}
use Rattle.protocol.specs.History.{Transition, Entry, transitions_of, newest, sends}
use Rattle.safety.specs.Trust.{AgreesAmong}
use Rattle.safety.proofs.MovesAndHistories.NewestTransitions.{Made, Got, Heard, Offered, newest_stands}
use Rattle.units.proofs.Lists.Membership.{In}
use Rattle.units.proofs.Lists.OneValue.{one_some}
use Rattle.safety.proofs.OneLog.LogHearings.{IsAgreed, log_backed, IsPast, log_sent, log_offered}
use Rattle.safety.proofs.MovesAndHistories.TableRows.{word_to}
use Rattle.safety.proofs.OneRegistry.RegistryHearings.{Cause, OwnCause, told_own, told, IsTaken, accepted_sent}

accepted_rejected : Accepted ≡ Rejected → ⊥
accepted_rejected e = cc (e)

completed_rejected : Completed ≡ Rejected → ⊥
completed_rejected e = cc (e)

cancelled_rejected : Cancelled ≡ Rejected → ⊥
cancelled_rejected e = cc (e)

-- every node's history was made by its verdicts, and each message that a node received in the name of a trusted node was
-- sent by that node
pub record CausalAmong (trusted : Node → Bool) (scheme : Scheme) (f : Node → List Entry) : Type 0 where
  pub made : (n : Node) → Made scheme n (f n)
  pub sent : (n : Node) (m : Message) → Got (f n) m → trusted m.from ≡ true → In m (sends (f m.from))

-- all nodes are trusted
abbrev pub all_nodes : Node → Bool
all_nodes n = true

abbrev pub Causal : Scheme → (Node → List Entry) → Type 0
Causal scheme f = CausalAmong all_nodes scheme f

-- the log stands so, or went on from Accepted to Completed
abbrev pub LogSays : (Node → List Entry) → TransactionId → Status → Type 0
LogSays f t s = (x : Transition) × (newest (transitions_of (f Itl)) t ≡ Some x) × ((x.new ≡ s) ⊎ ((s ≡ Accepted) × (x.new ≡ Completed)))

-- the log stands Accepted or Completed
abbrev pub LogAgrees : (Node → List Entry) → TransactionId → Type 0
LogAgrees f t = (x : Transition) × (newest (transitions_of (f Itl)) t ≡ Some x) × IsAgreed x.new

pub past_transition : (s : Status) (o : Option Transition) → IsPast s o → (x : Transition) × (o ≡ Some x) × ((x.new ≡ s) ⊎ ((s ≡ Accepted) × (x.new ≡ Completed)))
past_transition s None h = absurd h
past_transition s (Some x) h = (x, refl, h)

-- the newest transition of a transaction has one content
one_content : (xs : List Transition) (t : TransactionId) (x y : Transition) (k l : Content) → newest xs t ≡ Some x → newest xs t ≡ Some y → x.content ≡ Some k → y.content ≡ Some l → k ≡ l
one_content xs t x y k l first second of_x of_y = one_some k l (sym of_x ∙ ap (λ (z : Transition). z.content) (one_some x y (sym first ∙ second)) ∙ of_y)

module _ {trusted : Node → Bool} (scheme : Scheme) (f : Node → List Entry) (causal : CausalAmong trusted scheme f) where
  -- a message that was received from a trusted node was sent by it
  pub heard_sent : (n from : Node) (t : TransactionId) (s : Status) → trusted from ≡ true → (h : Heard (f n) from t s) → In (message.notification h.notification) (sends (f from))
  heard_sent n from t s trust h =
      subst (λ m. In (message.notification h.notification) (sends (f m))) h.sender (causal.sent n (message.notification h.notification) h.got (subst (λ z. trusted z ≡ true) (sym h.sender) trust))

  pub offered_sent : (n from : Node) (t : TransactionId) (st : ProposalStatus) (k : Content) → trusted from ≡ true → (o : Offered (f n) from t st k) → In (message.proposal o.proposal) (sends (f from))
  offered_sent n from t st k trust o =
      subst (λ m. In (message.proposal o.proposal) (sends (f m))) o.sender (causal.sent n (message.proposal o.proposal) o.got (subst (λ z. trusted z ≡ true) (sym o.sender) trust))

module _ {trusted : Node → Bool} (scheme : Scheme) (f : Node → List Entry) (causal : CausalAmong trusted scheme f) (log : trusted Itl ≡ true) where
  pub log_said : (n : Node) (t : TransactionId) (s : Status) → Heard (f n) Itl t s → LogSays f t s
  log_said n t s h =
      let p = log_sent scheme (f Itl) (causal.made Itl) h.notification (heard_sent scheme f causal n Itl t s log h) in
      past_transition s (newest (transitions_of (f Itl)) t) (subst (λ u. IsPast s (newest (transitions_of (f Itl)) u)) h.about (subst (λ r. IsPast r (newest (transitions_of (f Itl)) h.notification.id)) h.told p.0))

  agrees_from : (t : TransactionId) (s : Status) → IsAgreed s → LogSays f t s → LogAgrees f t
  agrees_from t s a l = (
    l.0,
    l.1,
    elim l.2 [
      | inl e ↦ subst IsAgreed (sym e) a
      | inr e ↦ subst IsAgreed (sym e.1) tt
    ],
  )

  -- where a node stands Completed, the log stands Accepted or Completed
  pub completed_agrees : (n : Node) (t : TransactionId) → StandsAt f n t Completed → LogAgrees f t
  completed_agrees Itl t h =
      let g = newest_stands (transitions_of (f Itl)) t Completed (newest (transitions_of (f Itl)) t) refl h in
      (g.0, g.1, subst IsAgreed (sym g.2) tt)
  completed_agrees (Registry c) t h =
      let es = f (Registry c) in
      let g = newest_stands (transitions_of es) t Completed (newest (transitions_of es) t) refl h in
      elim (cases_Bool (same_code t.code c)) [
        | inl own ↦
            elim (subst (OwnCause es t) g.2 (told_own scheme c es (causal.made (Registry c)) t g.0 g.1 own)) [
              | inl e ↦ absurd (cc (e))
              | inr p ↦ agrees_from t Accepted tt (log_said (Registry c) t Accepted p)
            ]
        | inr foreign ↦
            let p = subst (Cause c es t) g.2 (told scheme c es (causal.made (Registry c)) t g.0 g.1 foreign) in
            agrees_from t Completed tt (log_said (Registry c) t Completed p)
      ]

  -- the log has one status
  differs : (t : TransactionId) (s : Status) → LogAgrees f t → (IsAgreed s → ⊥) → LogSays f t s → ⊥
  differs t s a bad l =
      let e = sym a.1 ∙ l.1 in
      let same = one_some a.0 l.0 e in
      elim l.2 [
        | inl e ↦ bad (subst IsAgreed (ap (λ (z : Transition). z.new) same ∙ e) a.2)
        | inr e ↦ bad (subst IsAgreed (sym e.0) tt)
      ]

  -- where the log stands Accepted or Completed, its trusted acquirer has not rejected
  not_rejected : (c : Code) (t : TransactionId) → trusted (Registry c) ≡ true → LogAgrees f t → same_code t.code c ≡ false → StandsAt f (Registry c) t Rejected → ⊥
  not_rejected c t trust a foreign h =
      let es = f (Registry c) in
      let g = newest_stands (transitions_of es) t Rejected (newest (transitions_of es) t) refl h in
      let cause = subst (Cause c es t) g.2 (told scheme c es (causal.made (Registry c)) t g.0 g.1 foreign) in
      let k = cause.0 in
      let p = cause.1 in
      let sent_by = offered_sent scheme f causal (Registry c) Itl t proposal.Checked k log p in
      let o = log_offered scheme (f Itl) (causal.made Itl) p.proposal sent_by in
      let b = log_backed scheme (f Itl) (causal.made Itl) t a.0 a.1 a.2 in
      let content = one_content (transitions_of (f Itl)) t o.0 a.0 p.proposal.content b.content (subst (λ u. newest (transitions_of (f Itl)) u ≡ Some o.0) p.about o.1) a.1 o.2 b.known in
      let who : b.content.acquirer ≡ c = sym (ap (λ (z : Content). z.acquirer) content) ∙ ap (λ (z : Content). z.acquirer) p.content ∙ cause.2 in
      let accepted = subst (λ z. In (message.notification b.heard.notification) (sends (f (Registry z)))) who (heard_sent scheme f causal Itl (Registry b.content.acquirer) t Accepted (subst (λ z. trusted (Registry z) ≡ true) (sym who) trust) b.heard) in
      let s = accepted_sent scheme c es (causal.made (Registry c)) b.heard.notification accepted b.heard.told in
      let taken : IsTaken (Some g.0) = subst IsTaken (ap (newest (transitions_of es)) b.heard.about ∙ g.1) s.1 in
      elim taken [
        | inl e ↦ accepted_rejected (sym e ∙ g.2)
        | inr e ↦
            elim e [
              | inl d ↦ completed_rejected (sym d ∙ g.2)
              | inr d ↦ cancelled_rejected (sym d ∙ g.2)
            ]
      ]

  -- no node stands at the other end
  own_ended : (c : Code) (t : TransactionId) (s : Status) → LogAgrees f t → same_code t.code c ≡ true → word_to s ≡ s → (s ≡ Proposed → ⊥) → (IsAgreed s → ⊥) → StandsAt f (Registry c) t s → ⊥
  own_ended c t s a own word started bad h =
      let es = f (Registry c) in
      let g = newest_stands (transitions_of es) t s (newest (transitions_of es) t) refl h in
      elim (subst (OwnCause es t) g.2 (told_own scheme c es (causal.made (Registry c)) t g.0 g.1 own)) [
        | inl e ↦ started e
        | inr p ↦ differs t s a bad (log_said (Registry c) t s (subst (Heard es Itl t) word p))
      ]

  log_ended : (t : TransactionId) (s : Status) → LogAgrees f t → (IsAgreed s → ⊥) → StandsAt f Itl t s → ⊥
  log_ended t s a bad h = let g = newest_stands (transitions_of (f Itl)) t s (newest (transitions_of (f Itl)) t) refl h in differs t s a bad (g.0, g.1, inl g.2)

  not_cancelled : (c : Code) (t : TransactionId) → LogAgrees f t → same_code t.code c ≡ false → StandsAt f (Registry c) t Cancelled → ⊥
  not_cancelled c t a foreign h =
      let es = f (Registry c) in
      let g = newest_stands (transitions_of es) t Cancelled (newest (transitions_of es) t) refl h in
      let p = subst (Cause c es t) g.2 (told scheme c es (causal.made (Registry c)) t g.0 g.1 foreign) in
      differs t Cancelled a (λ z. z) (log_said (Registry c) t Cancelled p)

  not_terminated : (c : Code) (t : TransactionId) → same_code t.code c ≡ false → StandsAt f (Registry c) t Terminated → ⊥
  not_terminated c t foreign h =
      let es = f (Registry c) in
      let g = newest_stands (transitions_of es) t Terminated (newest (transitions_of es) t) refl h in
      subst (Cause c es t) g.2 (told scheme c es (causal.made (Registry c)) t g.0 g.1 foreign)

  pub ended : (m : Node) (t : TransactionId) → trusted m ≡ true → LogAgrees f t → (StandsAt f m t Rejected ⊎ (StandsAt f m t Terminated ⊎ StandsAt f m t Cancelled)) → ⊥
  ended Itl t trust a (inl h) = log_ended t Rejected a (λ z. z) h
  ended Itl t trust a (inr (inl h)) = log_ended t Terminated a (λ z. z) h
  ended Itl t trust a (inr (inr h)) = log_ended t Cancelled a (λ z. z) h
  ended (Registry c) t trust a (inl h) =
      elim (cases_Bool (same_code t.code c)) [
        | inl own ↦ own_ended c t Rejected a own refl (λ e. cc (e)) (λ z. z) h
        | inr foreign ↦ not_rejected c t trust a foreign h
      ]
  ended (Registry c) t trust a (inr (inl h)) =
      elim (cases_Bool (same_code t.code c)) [
        | inl own ↦ own_ended c t Terminated a own refl (λ e. cc (e)) (λ z. z) h
        | inr foreign ↦ not_terminated c t foreign h
      ]
  ended (Registry c) t trust a (inr (inr h)) =
      elim (cases_Bool (same_code t.code c)) [
        | inl own ↦ own_ended c t Cancelled a own refl (λ e. cc (e)) (λ z. z) h
        | inr foreign ↦ not_cancelled c t a foreign h
      ]

  pub agrees_among : AgreesAmong trusted f
  agrees_among t n m here there h e = ended m t there (completed_agrees n t h) e

pub causal_agrees : (scheme : Scheme) (f : Node → List Entry) → Causal scheme f → Agrees f
causal_agrees scheme f causal t n m h e = agrees_among scheme f causal refl t n m refl refl h e
