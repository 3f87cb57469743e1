-- The proposals that a registry sent, for all messages that it receives: each is of a transaction of its own, no two
-- are of the same one, and each transaction of its own is proposed. `offered` has the later statuses of a proposal.
use Rattle.std.proofs.Common.{◌≡◌, List, [], ◌∷◌, ◌++◌, true, Option, Some, None, ◌⊎◌, inl, inr, refl, sym, ap, subst, ◌∙◌, map}
use Rattle.std.specs.List.{filter_map}
use Rattle.std.proofs.lemmas.List.{map-append}
use Rattle.std.proofs.lemmas.List.Elements.{filter_map-append}
use Rattle.units.proofs.Same.{code_of_same}
use Rattle.units.specs.Code.{same_code}
use Rattle.units.specs.declared.code.Code.{Code}
use Rattle.units.specs.declared.code.Node.TheVariants.{Registry}
use Rattle.status.specs.declared.id.TransactionId.{TransactionId}
use Rattle.status.specs.declared.status.Status.{Status}
use Rattle.status.specs.declared.status.Status.TheVariants.{Proposed, Checked, Accepted, Rejected, Terminated, Cancelled, Completed}
use Rattle.wire.specs.declared.input.Input.{Input}
use Rattle.wire.specs.declared.message.Message.{Message}
use Rattle.protocol.proofs.MessageForms as message
use Rattle.protocol.proofs.MessageForms.{ProposalMessage, Form, form, of_proposal, of_notification, of_request, apart, one_proposal}
use Rattle.scheme.specs.declared.registries.Scheme.{Scheme}
use Rattle.protocol.specs.History.{Transition, Entry, transitions_of, newest, sends, messages_of}
use Rattle.protocol.specs.Table.{ProposedTransfer, proposed, proposed_in}
use Rattle.protocol.specs.Verdict.{history}
use Rattle.units.proofs.Lists.Membership.{In, In_cases, In_left, In_map}
use Rattle.units.proofs.Lists.NoRepeats.{NoRepeat, no_repeat_append}
use Rattle.units.proofs.Lists.OneValue.{clash}
use Rattle.safety.proofs.MovesAndHistories.LongerHistories.{made_history}
use Rattle.safety.proofs.MovesAndHistories.NewestTransitions.{Made, made_registry, newest_id}
use Rattle.safety.proofs.MovesAndHistories.TableMoves.{RegistryMove, proposes, asks, arrives, bares, concludes, finishes}
use Rattle.safety.proofs.MovesAndHistories.TransitionForms.{concluded_messages}
use Rattle.safety.proofs.OneRegistry.TransactionEnds.{offered, own_about}
use Rattle.safety.proofs.OneRegistry.UnitsCountedOnce.{made_single}
use Rattle.safety.proofs.OneTransfer.SentByTransitions.{transition_sends}

-- ---- the transfers that messages propose

abbrev pub proposed_by : Message → Option ProposedTransfer
proposed_by m = proposed_in m.id m.body

abbrev pub proposals_in : List Message → List ProposedTransfer
proposals_in ms = filter_map proposed_by ms

abbrev pub transfer_in : ProposalMessage → ProposedTransfer
transfer_in p = record { id = p.id; content = p.content }

-- one of the messages proposes the transfer
abbrev pub IsSent : List Message → ProposedTransfer → Type 0
IsSent ms t = (p : ProposalMessage) × In (message.proposal p) ms × (transfer_in p ≡ t)

sent_later : (m : Message) (ms : List Message) (t : ProposedTransfer) → IsSent ms t → IsSent (m ∷ ms) t
sent_later m ms t s = (s.0, inr s.1, s.2)

sent_next : (m : Message) → Form m → (ms : List Message) (t : ProposedTransfer) → (In t (proposals_in ms) → IsSent ms t) → In t (proposals_in (m ∷ ms)) → IsSent (m ∷ ms) t
sent_next m (of_proposal p) ms t rest (inl e) = (p, inl refl, e)
sent_next m (of_proposal p) ms t rest (inr h) = sent_later m ms t (rest h)
sent_next m (of_notification n) ms t rest h = sent_later m ms t (rest h)
sent_next m (of_request r) ms t rest h = sent_later m ms t (rest h)

pub In_proposals : (ms : List Message) (t : ProposedTransfer) → In t (proposals_in ms) → IsSent ms t
In_proposals [] t h = absurd h
In_proposals (m ∷ ms) t h = sent_next m (form m) ms t (In_proposals ms t) h

found_next : (m : Message) → Form m → (ms : List Message) (p : ProposalMessage) → (In (message.proposal p) ms → In (transfer_in p) (proposals_in ms)) → In (message.proposal p) (m ∷ ms)
    → In (transfer_in p) (proposals_in (m ∷ ms))
found_next m (of_proposal q) ms p rest (inl e) = inl (ap transfer_in (one_proposal q p e))
found_next m (of_proposal q) ms p rest (inr h) = inr (rest h)
found_next m (of_notification n) ms p rest (inl e) = apart e refl
found_next m (of_notification n) ms p rest (inr h) = rest h
found_next m (of_request r) ms p rest (inl e) = apart e refl
found_next m (of_request r) ms p rest (inr h) = rest h

pub proposals_In : (ms : List Message) (p : ProposalMessage) → In (message.proposal p) ms → In (transfer_in p) (proposals_in ms)
proposals_In [] p h = absurd h
proposals_In (m ∷ ms) p h = found_next m (form m) ms p (proposals_In ms p) h

concluded_none : (c : Code) (t : TransactionId) (new : Status) → proposals_in (concluded_messages c t new ++ []) ≡ []
concluded_none c t Completed = refl
concluded_none c t Proposed = refl
concluded_none c t Checked = refl
concluded_none c t Accepted = refl
concluded_none c t Rejected = refl
concluded_none c t Terminated = refl
concluded_none c t Cancelled = refl

-- the transactions of proposals
abbrev pub ids : List ProposedTransfer → List TransactionId
ids ps = map (λ p. p.id) ps

module _ (scheme : Scheme) (c : Code) where
  -- ---- a transaction of one's own was proposed

  abbrev pub IsProposed : List Entry → TransactionId → Type 0
  IsProposed es t = (p : ProposalMessage) × In (message.proposal p) (sends es) × (p.id ≡ t)

  proposed_later : (e : Entry) (es : List Entry) (t : TransactionId) → IsProposed es t → IsProposed (e ∷ es) t
  proposed_later e es t g = (g.0, In_left (message.proposal g.0) (sends es) (messages_of e.transitions) g.1, g.2)

  proposed_move : (e : Entry) (es : List Entry) (input : Input) (x : Transition) → RegistryMove scheme c es input x → In x e.transitions → same_code x.id.code c ≡ true
      → ((q : Transition) → In q (transitions_of es) → same_code q.id.code c ≡ true → IsProposed es q.id) → IsProposed (e ∷ es) x.id
  proposed_move e es input x (proposes o t none is fresh) i own old = (_, transition_sends (e ∷ es) x _ (In_left x e.transitions (transitions_of es) i) (inl refl), refl)
  proposed_move e es input x (asks t q was mine stood) i own old = proposed_later e es q.id (old q (newest_id (transitions_of es) t q was).0 own)
  proposed_move e es input x (arrives p moment found f s is none foreign mine) i own old = clash (same_code p.id.code c) own foreign
  proposed_move e es input x (bares n moment f cancelled none foreign) i own old = clash (same_code n.id.code c) own foreign
  proposed_move e es input x (concludes n moment q new f was mine move) i own old = proposed_later e es q.id (old q (newest_id (transitions_of es) n.id q was).0 own)
  proposed_move e es input x (finishes n moment q new f was foreign move none) i own old = clash (same_code n.id.code c) (own_about scheme c es n.id q was own) foreign

  pub was_proposed : (es : List Entry) → Made scheme (Registry c) es → (x : Transition) → In x (transitions_of es) → same_code x.id.code c ≡ true → IsProposed es x.id
  was_proposed [] made x h own = absurd h
  was_proposed (e ∷ es) made x h own =
      elim (In_cases x e.transitions (transitions_of es) h) [
        | inl here ↦ proposed_move e es e.input x (made_registry scheme c e es x made here) here own (λ q i mine. was_proposed es made.1 q i mine)
        | inr later ↦ proposed_later e es x.id (was_proposed es made.1 x later own)
      ]

  -- ---- each proposal is of a transaction of one's own, and no two are of the same one

  -- what became of a transfer that was proposed, as `offered` says of its message
  pub proposed_stands : (es : List Entry) → Made scheme (Registry c) es → (p : ProposedTransfer) → In p (proposed es)
      → (x : Transition) × (newest (transitions_of es) p.id ≡ Some x) × (x.content ≡ Some p.content) × (same_code p.id.code c ≡ true)
  proposed_stands es made p h =
      let sent = In_proposals (sends es) p h in
      subst (λ (z : ProposedTransfer). (x : Transition) × (newest (transitions_of es) z.id ≡ Some x) × (x.content ≡ Some z.content) × (same_code z.id.code c ≡ true)) sent.2 (offered scheme c es made sent.0 sent.1)

  pub proposed_own : (es : List Entry) → Made scheme (Registry c) es → (p : ProposedTransfer) → In p (proposed es) → p.id.code ≡ c
  proposed_own es made p h = code_of_same p.id.code c (proposed_stands es made p h).3

  -- one transition proposes nothing, or one new transaction
  new_proposals : (es : List Entry) (input : Input) (x : Transition) → RegistryMove scheme c es input x
      → (proposals_in (messages_of (x ∷ [])) ≡ []) ⊎ ((p : ProposedTransfer) × (proposals_in (messages_of (x ∷ [])) ≡ p ∷ []) × (newest (transitions_of es) p.id ≡ None))
  new_proposals es input x (proposes o t none is fresh) = inr (_, refl, fresh)
  new_proposals es input x (asks t q was mine stood) = inl refl
  new_proposals es input x (arrives p moment found f s is none foreign mine) = inl refl
  new_proposals es input x (bares n moment f cancelled none foreign) = inl refl
  new_proposals es input x (concludes n moment q new f was mine move) = inl (concluded_none c q.id new)
  new_proposals es input x (finishes n moment q new f was foreign move none) = inl refl

  -- proposals of transactions that weren't there
  new_once : (es : List Entry) → Made scheme (Registry c) es → NoRepeat (ids (proposed es)) → (ps : List ProposedTransfer) → (ps ≡ []) ⊎ ((p : ProposedTransfer) × (ps ≡ p ∷ []) × (newest (transitions_of es) p.id ≡ None))
      → NoRepeat (ids (proposed es) ++ ids ps)
  new_once es made old ps (inl e) = no_repeat_append (ids (proposed es)) (ids ps) old (subst (λ z. NoRepeat (ids z)) (sym e) tt) (λ t i j. subst (λ z. In t (ids z)) e j)
  new_once es made old ps (inr g) =
      no_repeat_append (ids (proposed es)) (ids ps) old (subst (λ z. NoRepeat (ids z)) (sym g.1) ((λ h. h), tt))
      (λ t i j. elim (subst (λ z. In t (ids z)) g.1 j) [
        | inl e ↦
            let p = In_map (λ (z : ProposedTransfer). z.id) t (proposed es) i in
            let o = proposed_stands es made p.0 p.1 in
            let was : newest (transitions_of es) g.0.id ≡ Some o.0 = subst (λ z. newest (transitions_of es) z ≡ Some o.0) (p.2 ∙ sym e) o.1 in
            let no = sym g.2 ∙ was in
            cc (no)
        | inr k ↦ k
      ])

  entry_once : (e : Entry) (es : List Entry) → Made scheme (Registry c) (e ∷ es) → NoRepeat (ids (proposed es)) → NoRepeat (ids (proposed es) ++ ids (proposals_in (messages_of e.transitions)))
  entry_once e es made old =
      elim (made_single scheme c e es made) [
        | inl z ↦ new_once es made.1 old (proposals_in (messages_of e.transitions)) (inl (ap (λ xs. proposals_in (messages_of xs)) z))
        | inr z ↦
            new_once es made.1 old (proposals_in (messages_of e.transitions))
            (subst (λ xs. (proposals_in (messages_of xs) ≡ []) ⊎ ((p : ProposedTransfer) × (proposals_in (messages_of xs) ≡ p ∷ []) × (newest (transitions_of es) p.id ≡ None))) (sym z.1)
            (new_proposals es e.input z.0 (made_registry scheme c e es z.0 made (subst (λ xs. In z.0 xs) (sym z.1) (inl refl)))))
      ]

  pub proposed_once : (es : List Entry) → Made scheme (Registry c) es → NoRepeat (ids (proposed es))
  proposed_once [] made = tt
  proposed_once (e ∷ es) made =
      subst NoRepeat
      (sym (ap ids (filter_map-append proposed_by (sends es) (messages_of e.transitions)) ∙ map-append (λ (p : ProposedTransfer). p.id) (proposed es) (proposals_in (messages_of e.transitions))))
      (entry_once e es made (proposed_once es made.1))

  -- ---- the same of each journal

  pub journal_proposed_own : (journal : List Input) (p : ProposedTransfer) → In p (proposed (history scheme (Registry c) journal)) → p.id.code ≡ c
  journal_proposed_own journal p h = proposed_own (history scheme (Registry c) journal) (made_history scheme (Registry c) journal) p h

  pub journal_proposed_once : (journal : List Input) → NoRepeat (ids (proposed (history scheme (Registry c) journal)))
  journal_proposed_once journal = proposed_once (history scheme (Registry c) journal) (made_history scheme (Registry c) journal)
