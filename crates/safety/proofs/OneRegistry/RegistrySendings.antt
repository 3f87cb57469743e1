-- The messages that a registry sends: its offers, its answers as acquirer, and that its own transfers completed.
-- `Says` lists the kinds of message, each with what the history had recorded when it was sent. An induction over the
-- moves shows that every message that was sent is of one of these kinds. From them it follows that who asked for a
-- cancellation had proposed the transfer, and that a Rejected that was sent stands for good.
use Rattle.std.proofs.Common.{◌≡◌, ℕ, ◌+◌, List, [], ◌∷◌, true, false, Some, ◌⊎◌, inl, inr, refl, sym, ap, subst, ◌∙◌}
use Rattle.units.proofs.Same.{code_of_same}
use Rattle.units.specs.Code.{same_code}
use Rattle.units.specs.declared.code.Code.{Code}
use Rattle.units.specs.declared.code.Node.TheVariants.{Itl, Registry}
use Rattle.status.specs.Content.{Content}
use Rattle.status.specs.declared.id.TransactionId.{TransactionId}
use Rattle.status.specs.declared.status.Status.{Status}
use Rattle.status.specs.declared.status.Status.TheVariants.{Proposed, Checked, Accepted, Rejected, Terminated, Cancelled, Completed}
use Rattle.wire.specs.NotifiedStatuses.{notified_status}
use Rattle.wire.specs.declared.input.Input.{Input}
use Rattle.wire.specs.declared.message.Message.{Message}
use Rattle.protocol.proofs.MessageForms as message
use Rattle.protocol.proofs.MessageForms.{ProposalMessage, NotificationMessage, RequestMessage, one_notified, one_request, apart}
use Rattle.wire.specs.declared.message.ProposalStatus.TheVariants as proposal
use Rattle.scheme.specs.declared.registries.Scheme.{Scheme}
use Rattle.protocol.specs.History.{Transition, Entry, transitions_of, newest, sends, messages_of, proposals}
use Rattle.safety.proofs.MovesAndHistories.TransitionForms.{arrived_status, concluded_messages}
use Rattle.safety.proofs.OneRegistry.TransactionEnds.{single_same, own_code, newest_own}
use Rattle.safety.proofs.MovesAndHistories.NewestTransitions.{Made, Offered, offered_later, made_registry, newest_id, newest_append, newest_in}
use Rattle.safety.proofs.OneRegistry.UnitsCountedOnce.{made_single}
use Rattle.units.proofs.Lists.Membership.{In, In_cases, In_flat_map}
use Rattle.units.proofs.Lists.OneValue.{clash}
use Rattle.safety.proofs.MovesAndHistories.TableMoves.{RegistryMove, proposes, asks, arrives, bares, concludes, finishes}
use Rattle.safety.proofs.MovesAndHistories.TableRows.{acquirer_from}
use Rattle.safety.proofs.OneRegistry.RegistryHearings.{concluded_notified, arrived_notified_status}

pub arrived_answers : (found : List ℕ) → (arrived_status found ≡ Accepted) ⊎ (arrived_status found ≡ Rejected)
arrived_answers [] = inl refl
arrived_answers (n ∷ ns) = inr refl

module _ (scheme : Scheme) (c : Code) where
  -- ---- the kinds of message that a registry sends

  pub data Says (es : List Entry) : Message → Type 0 where
    offers : (p : ProposalMessage) → p.from ≡ Registry c → p.to ≡ Itl → p.status ≡ proposal.Proposed → same_code p.id.code c ≡ true → Says es (message.proposal p)
    answers : (n : NotificationMessage) (k : Content) → n.from ≡ Registry c → n.to ≡ Itl → (notified_status n.notified ≡ Accepted) ⊎ (notified_status n.notified ≡ Rejected) → same_code n.id.code c ≡ false
        → Offered es Itl n.id proposal.Checked k → k.acquirer ≡ c → Says es (message.notification n)
    completes : (n : NotificationMessage) → n.from ≡ Registry c → n.to ≡ Itl → notified_status n.notified ≡ Completed → same_code n.id.code c ≡ true → Says es (message.notification n)
    asks_log : (r : RequestMessage) → r.from ≡ Registry c → r.to ≡ Itl → same_code r.id.code c ≡ true → Says es (message.request r)

  says_later : (e : Entry) (es : List Entry) (m : Message) → Says es m → Says (e ∷ es) m
  says_later e es m (offers p from to status own) = offers p from to status own
  says_later e es m (answers n k from to which foreign got here) = answers n k from to which foreign (offered_later e es Itl n.id proposal.Checked k got) here
  says_later e es m (completes n from to done own) = completes n from to done own
  says_later e es m (asks_log r from to own) = asks_log r from to own

  says_move : (es : List Entry) (e : Entry) (input : Input) (x : Transition) (m : Message) → e.input ≡ input → RegistryMove scheme c es input x → In m x.messages → Says (e ∷ es) m
  says_move es e input x m i (proposes o t none is fresh) (inl h) = subst (Says (e ∷ es)) h (offers _ refl refl refl (own_code scheme c (proposals es + 1) t is))
  says_move es e input x m i (proposes o t none is fresh) (inr h) = absurd h
  says_move es e input x m i (arrives p moment found f s is none foreign mine) (inl h) =
      let got : Offered (e ∷ es) Itl p.id proposal.Checked p.content = record { proposal = p; got = inl (moment, i); sender = f; about = refl; status = s; content = refl } in
      subst (Says (e ∷ es)) h
      (answers _ p.content refl refl (subst (λ z. (z ≡ Accepted) ⊎ (z ≡ Rejected)) (sym (arrived_notified_status found)) (arrived_answers found)) foreign got (code_of_same p.content.acquirer c mine))
  says_move es e input x m i (arrives p moment found f s is none foreign mine) (inr h) = absurd h
  says_move es e input x m i (asks t q old own stood) (inl h) = subst (Says (e ∷ es)) h (asks_log _ refl refl (subst (λ (z : TransactionId). same_code z.code c ≡ true) (sym (newest_id (transitions_of es) t q old).1) own))
  says_move es e input x m i (asks t q old own stood) (inr h) = absurd h
  says_move es e input x m i (bares n moment f cancelled none foreign) h = absurd h
  says_move es e input x m i (concludes n moment q new f was mine move) h = done new h
    where
      own : same_code q.id.code c ≡ true
      own = subst (λ (z : TransactionId). same_code z.code c ≡ true) (sym (newest_id (transitions_of es) n.id q was).1) mine

      done : (new : Status) → In m (concluded_messages c q.id new) → Says (e ∷ es) m
      done Completed (inl h) = subst (Says (e ∷ es)) h (completes _ refl refl refl own)
      done Completed (inr h) = absurd h
      done Proposed h = absurd h
      done Checked h = absurd h
      done Accepted h = absurd h
      done Rejected h = absurd h
      done Terminated h = absurd h
      done Cancelled h = absurd h
  says_move es e input x m i (finishes n moment q new f was foreign move none) h = absurd h

  pub says : (es : List Entry) → Made scheme (Registry c) es → (m : Message) → In m (sends es) → Says es m
  says [] made m h = absurd h
  says (e ∷ es) made m h =
      elim (In_cases m (sends es) (messages_of e.transitions) h) [
        | inl old ↦ says_later e es m (says es made.1 m old)
        | inr new ↦
            let g = In_flat_map (λ (q : Transition). q.messages) m e.transitions new in
            says_move es e e.input g.0 m refl (made_registry scheme c e es g.0 made g.1) g.2
      ]

  -- ---- who asked for cancellation had proposed

  asked_move : (es : List Entry) (input : Input) (x : Transition) (r : RequestMessage) → RegistryMove scheme c es input x → In (message.request r) x.messages → x.id ≡ r.id
  asked_move es input x r (proposes o t none is fresh) (inl e) = apart e refl
  asked_move es input x r (proposes o t none is fresh) (inr h) = absurd h
  asked_move es input x r (asks t q old own stood) (inl e) = let s = one_request _ r e in ap (λ (z : RequestMessage). z.id) s
  asked_move es input x r (asks t q old own stood) (inr h) = absurd h
  asked_move es input x r (arrives p moment found f s is none foreign mine) (inl e) = apart e refl
  asked_move es input x r (arrives p moment found f s is none foreign mine) (inr h) = absurd h
  asked_move es input x r (bares n moment f cancelled none foreign) h = absurd h
  asked_move es input x r (concludes n moment q new f was mine move) h = absurd (none new h)
    where
      none : (new : Status) → In (message.request r) (concluded_messages c q.id new) → ⊥
      none Completed (inl e) = apart e refl
      none Completed (inr i) = i
      none Proposed i = i
      none Checked i = i
      none Accepted i = i
      none Rejected i = i
      none Terminated i = i
      none Cancelled i = i
  asked_move es input x r (finishes n moment q new f was foreign move none) h = absurd h

  pub asked_known : (es : List Entry) → Made scheme (Registry c) es → (r : RequestMessage) → In (message.request r) (sends es) → (x : Transition) × (newest (transitions_of es) r.id ≡ Some x)
  asked_known [] made r h = absurd h
  asked_known (e ∷ es) made r h =
      elim (In_cases (message.request r) (sends es) (messages_of e.transitions) h) [
        | inl old ↦
            let p = asked_known es made.1 r old in
            elim (newest_append e.transitions (transitions_of es) r.id) [
              | inl u ↦ (p.0, u ∙ p.1)
              | inr u ↦ (u.0, u.3)
            ]
        | inr new ↦
            let g = In_flat_map (λ (q : Transition). q.messages) (message.request r) e.transitions new in
            let u = newest_in e.transitions (transitions_of es) g.0 r.id g.1 (asked_move es e.input g.0 r (made_registry scheme c e es g.0 made g.1) g.2) in
            (u.0, u.3)
      ]

  -- ---- a Rejected that was sent stands

  rejected_move : (es : List Entry) (input : Input) (q : Transition) (n : NotificationMessage) → RegistryMove scheme c es input q → In (message.notification n) q.messages → notified_status n.notified ≡ Rejected
      → (q.id ≡ n.id) × (q.new ≡ Rejected) × (same_code n.id.code c ≡ false)
  rejected_move es input q n (proposes o t none is fresh) (inl e) said = apart e refl
  rejected_move es input q n (proposes o t none is fresh) (inr h) said = absurd h
  rejected_move es input q n (arrives p moment found f s is none foreign mine) (inl e) said =
      let m = one_notified _ n e in
      let about = ap (λ (z : NotificationMessage). z.id) m in (
        about,
        sym (arrived_notified_status found) ∙ ap (λ (z : NotificationMessage). notified_status z.notified) m ∙ said,
        subst (λ (z : TransactionId). same_code z.code c ≡ false) about foreign,
      )
  rejected_move es input q n (arrives p moment found f s is none foreign mine) (inr h) said = absurd h
  rejected_move es input q n (asks t p old own stood) (inl e) said = apart e refl
  rejected_move es input q n (asks t p old own stood) (inr h) said = absurd h
  rejected_move es input q n (bares m moment f cancelled none foreign) h said = absurd h
  rejected_move es input q n (concludes m moment p new f was mine move) h said = let x : Completed ≡ Rejected = sym (concluded_notified c p.id new n h) ∙ said in absurd (cc (x))
  rejected_move es input q n (finishes m moment p new f was foreign move none) h said = absurd h

  stays_rejected : (es : List Entry) (input : Input) (x q : Transition) → RegistryMove scheme c es input x → newest (transitions_of es) x.id ≡ Some q → q.new ≡ Rejected → same_code x.id.code c ≡ false → ⊥
  stays_rejected es input x q (proposes o t none is fresh) h was foreign = clash (same_code t.code c) (own_code scheme c (proposals es + 1) t is) foreign
  stays_rejected es input x q (arrives p moment found f s is none foreign' mine) h was foreign = let e = sym none ∙ h in cc (e)
  stays_rejected es input x q (bares n moment f cancelled none foreign') h was foreign = let e = sym none ∙ h in cc (e)
  stays_rejected es input x q (asks t p old own stood) h was foreign =
      clash (same_code t.code c) own (subst (λ (z : TransactionId). same_code z.code c ≡ false) (newest_id (transitions_of es) t p old).1 foreign)
  stays_rejected es input x q (concludes n moment p new f old own move) h was foreign =
      clash (same_code n.id.code c) own (subst (λ (z : TransactionId). same_code z.code c ≡ false) (newest_id (transitions_of es) n.id p old).1 foreign)
  stays_rejected es input x q (finishes n moment p new f old foreign' move none) h was foreign =
      let same = newest_own scheme c es n.id p q old h in
      let y : Accepted ≡ Rejected = sym (acquirer_from p.new (notified_status n.notified) new move).0 ∙ ap (λ (z : Transition). z.new) same ∙ was in
      cc (y)

  pub rejected_sent : (es : List Entry) → Made scheme (Registry c) es → (n : NotificationMessage) → In (message.notification n) (sends es) → notified_status n.notified ≡ Rejected
      → (x : Transition) × (newest (transitions_of es) n.id ≡ Some x) × (x.new ≡ Rejected) × (same_code n.id.code c ≡ false)
  rejected_sent [] made n h said = absurd h
  rejected_sent (e ∷ es) made n h said =
      elim (In_cases (message.notification n) (sends es) (messages_of e.transitions) h) [
        | inl old ↦
            let p = rejected_sent es made.1 n old said in
            elim (newest_append e.transitions (transitions_of es) n.id) [
              | inl u ↦ (p.0, u ∙ p.1, p.2, p.3)
              | inr u ↦
                  absurd (stays_rejected es e.input u.0 p.0 (made_registry scheme c e es u.0 made u.1) (subst (λ z. newest (transitions_of es) z ≡ Some p.0) (sym u.2) p.1) p.2
                  (subst (λ (z : TransactionId). same_code z.code c ≡ false) (sym u.2) p.3))
            ]
        | inr new ↦
            let g = In_flat_map (λ (q : Transition). q.messages) (message.notification n) e.transitions new in
            let m = rejected_move es e.input g.0 n (made_registry scheme c e es g.0 made g.1) g.2 said in
            let u = newest_in e.transitions (transitions_of es) g.0 n.id g.1 m.0 in
            (u.0, u.3, ap (λ (z : Transition). z.new) (single_same e.transitions u.0 g.0 (made_single scheme c e es made) u.1 g.1) ∙ m.1, m.2)
      ]
