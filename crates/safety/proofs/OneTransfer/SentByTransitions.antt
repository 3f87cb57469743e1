-- What a transition that stands at some status has sent. By the forms of transitions, each status at an initiator,
-- an acquirer or the log comes with a notification of that status to the next node, and an initiator has sent the
-- proposal. These are the messages that bring an open transfer to its end.
use Rattle.std.proofs.Common.{◌≡◌, ℕ, ◌+◌, List, [], ◌∷◌, true, false, Some, ◌⊎◌, inl, inr, refl, sym, ap, subst, ◌∙◌}
use Rattle.std.specs.Prelude.{flat_map}
use Rattle.units.specs.Code.{same_code}
use Rattle.units.specs.declared.code.Code.{Code}
use Rattle.units.specs.declared.code.Node.{Node}
use Rattle.units.specs.declared.code.Node.TheVariants.{Itl, Registry}
use Rattle.status.specs.Content.{Content}
use Rattle.status.specs.declared.id.TransactionId.{TransactionId}
use Rattle.status.specs.declared.status.Status.{Status}
use Rattle.status.specs.declared.status.Status.TheVariants.{Proposed, Checked, Accepted, Rejected, Terminated, Cancelled, Completed}
use Rattle.wire.specs.NotifiedStatuses.{notified_status}
use Rattle.wire.specs.declared.input.Input.{Input}
use Rattle.wire.specs.declared.message.Message.{Message}
use Rattle.wire.specs.declared.message.ProposalStatus.TheVariants as proposal
use Rattle.wire.specs.declared.notified.NotifiedStatus.{NotifiedStatus}
use Rattle.wire.specs.declared.notified.NotifiedStatus.TheVariants as notified
use Rattle.scheme.specs.declared.registries.Scheme.{Scheme}
use Rattle.protocol.specs.AtRegistry.{content_of}
use Rattle.protocol.specs.Effects.{notifies, proposes as to_propose}
use Rattle.protocol.specs.History.{Transition, Entry, transitions_of, sends, messages_of, proposals}
use Rattle.safety.proofs.MovesAndHistories.TransitionForms.{arrived, arrived_status, concluded_messages, checked, checked_status, told_to, moved}
use Rattle.safety.proofs.OneRegistry.TransactionEnds.{each_move, own_code, own_about}
use Rattle.safety.proofs.MovesAndHistories.NewestTransitions.{Made, made_registry, made_log, newest_id}
use Rattle.safety.proofs.OneRegistry.UnitsCountedOnce.{initiator_new}
use Rattle.units.proofs.Lists.Membership.{In, In_cases, In_left, In_right}
use Rattle.units.proofs.Lists.OneValue.{clash, one_some}
use Rattle.safety.proofs.MovesAndHistories.TableMoves.{RegistryMove, proposes, asks, arrives, bares, concludes, finishes, LogMove, checks, passes, cancels, forestalls}
use Rattle.safety.proofs.MovesAndHistories.TableRows.{log_from, acquirer_from}

-- ---- a message of a transition is sent

In_flat_map_from : {X A : Type 0} (f : X → List A) (a : A) (xs : List X) (x : X) → In x xs → In a (f x) → In a (flat_map f xs)
In_flat_map_from f a [] x i h = absurd i
In_flat_map_from f a (y ∷ ys) x (inl e) h = In_left a (f y) (flat_map f ys) (subst (λ z. In a (f z)) (sym e) h)
In_flat_map_from f a (y ∷ ys) x (inr i) h = In_right a (f y) (flat_map f ys) (In_flat_map_from f a ys x i h)

pub transition_sends : (es : List Entry) (x : Transition) (m : Message) → In x (transitions_of es) → In m x.messages → In m (sends es)
transition_sends [] x m i h = absurd i
transition_sends (e ∷ es) x m i h =
    elim (In_cases x e.transitions (transitions_of es) i) [
      | inl j ↦ In_right m (sends es) (messages_of e.transitions) (In_flat_map_from (λ (y : Transition). y.messages) m e.transitions x j h)
      | inr j ↦ In_left m (sends es) (messages_of e.transitions) (transition_sends es x m j h)
    ]

-- ---- what each transition says

-- a notification of that status is among its messages
abbrev pub Tells : Transition → Node → Node → Status → Type 0
Tells x from to s = (said : NotifiedStatus) × (notified_status said ≡ s) × In (notifies from to x.id said) x.messages

-- of a transfer of one's own
abbrev pub SaysOwn : Code → Transition → Status → Type 0
SaysOwn c x Completed = Tells x (Registry c) Itl Completed
SaysOwn c x _ = Unit {0}

-- of a transfer of another registry
abbrev pub SaysOther : Code → Transition → Status → Type 0
SaysOther c x Accepted = Tells x (Registry c) Itl Accepted
SaysOther c x Rejected = Tells x (Registry c) Itl Rejected
SaysOther c x _ = Unit {0}

-- at the log, where nothing stands Proposed
abbrev pub SaysAtLog : Transition → Status → Type 0
SaysAtLog x Proposed = ⊥
SaysAtLog x Checked = (k : Content) × (x.content ≡ Some k) × In (to_propose Itl (Registry k.acquirer) x.id proposal.Checked k) x.messages
SaysAtLog x Completed = (k : Content) × (x.content ≡ Some k) × Tells x Itl (Registry k.acquirer) Completed
SaysAtLog x s = Tells x Itl (Registry x.id.code) s

module _ (scheme : Scheme) (c : Code) where
  concluded_says : (q : Transition) (moment : ℕ) (new : Status) → (new ≡ Proposed → ⊥) → SaysOwn c (moved q new moment (concluded_messages c q.id new)) new
  concluded_says q moment Proposed h = tt
  concluded_says q moment Completed h = (notified.Completed, refl, inl refl)
  concluded_says q moment Checked h = tt
  concluded_says q moment Accepted h = tt
  concluded_says q moment Rejected h = tt
  concluded_says q moment Terminated h = tt
  concluded_says q moment Cancelled h = tt

  own_says : (es : List Entry) (input : Input) (x : Transition) → RegistryMove scheme c es input x → same_code x.id.code c ≡ true → SaysOwn c x x.new
  own_says es input x (proposes o t none is fresh) own = tt
  own_says es input x (asks t q old mine stood) own = tt
  own_says es input x (arrives p moment found f s is none foreign mine) own = clash (same_code p.id.code c) own foreign
  own_says es input x (bares n moment f told none foreign) own = clash (same_code n.id.code c) own foreign
  own_says es input x (concludes n moment q new f old mine move) own = concluded_says q moment.seconds new (initiator_new q.new (notified_status n.notified) new move)
  own_says es input x (finishes n moment q new f old foreign move none) own = clash (same_code n.id.code c) (own_about scheme c es n.id q old own) foreign

  other_says : (es : List Entry) (input : Input) (x : Transition) → RegistryMove scheme c es input x → same_code x.id.code c ≡ false → SaysOther c x x.new
  other_says es input x (proposes o t none is fresh) foreign = clash (same_code t.code c) (own_code scheme c (proposals es + 1) t is) foreign
  other_says es input x (arrives p moment found f s is none other mine) foreign = go found
    where
      go : (found : List ℕ) → SaysOther c (arrived c p.id p.content moment.seconds found) (arrived_status found)
      go [] = (notified.Accepted, refl, inl refl)
      go (n ∷ ns) = (notified.Rejected (n ∷ ns), refl, inl refl)
  other_says es input x (asks t q old own stood) foreign = clash (same_code q.id.code c) (subst (λ (z : TransactionId). same_code z.code c ≡ true) (sym (newest_id (transitions_of es) t q old).1) own) foreign
  other_says es input x (bares n moment f told none other) foreign = tt
  other_says es input x (concludes n moment q new f old mine move) foreign =
      clash (same_code q.id.code c) (subst (λ (z : TransactionId). same_code z.code c ≡ true) (sym (newest_id (transitions_of es) n.id q old).1) mine) foreign
  other_says es input x (finishes n moment q new f old other move none) foreign =
      let m = acquirer_from q.new (notified_status n.notified) new move in
      elim m.2 [
        | inl e ↦ subst (SaysOther c (moved q new moment.seconds [])) (sym (m.1 ∙ e)) tt
        | inr e ↦ subst (SaysOther c (moved q new moment.seconds [])) (sym (m.1 ∙ e)) tt
      ]

  pub own_said : (es : List Entry) → Made scheme (Registry c) es → (x : Transition) → In x (transitions_of es) → same_code x.id.code c ≡ true → SaysOwn c x x.new
  own_said =
      each_move scheme c (λ xs. (x : Transition) → In x xs → same_code x.id.code c ≡ true → SaysOwn c x x.new) (λ x i own. absurd i)
      (λ es input y made move old x i own.
      elim i [
        | inl e ↦ subst (λ (z : Transition). SaysOwn c z z.new) e (own_says es input y move (subst (λ (z : Transition). same_code z.id.code c ≡ true) (sym e) own))
        | inr j ↦ old x j own
      ])

  -- a registry has sent the proposal of each transfer of its own
  abbrev pub OwnOffer : List Entry → Transition → Type 0
  OwnOffer es x = (k : Content) × (x.content ≡ Some k) × In (to_propose (Registry c) Itl x.id proposal.Proposed k) (sends es)

  offered_move : (e : Entry) (es : List Entry) (input : Input) (x : Transition) → RegistryMove scheme c es input x → In x e.transitions → same_code x.id.code c ≡ true
      → ((q : Transition) → In q (transitions_of es) → same_code q.id.code c ≡ true → OwnOffer es q) → OwnOffer (e ∷ es) x
  offered_move e es input x (proposes o t none is fresh) i own older = (content_of o, refl, transition_sends (e ∷ es) x _ (In_left x e.transitions (transitions_of es) i) (inl refl))
  offered_move e es input x (asks t q old mine stood) i own older =
      let o = older q (newest_id (transitions_of es) t q old).0 own in (o.0, o.1, In_left _ (sends es) (messages_of e.transitions) o.2)
  offered_move e es input x (arrives p moment found f s is none foreign mine) i own older = clash (same_code p.id.code c) own foreign
  offered_move e es input x (bares n moment f told none foreign) i own older = clash (same_code n.id.code c) own foreign
  offered_move e es input x (concludes n moment q new f old mine move) i own older =
      let o = older q (newest_id (transitions_of es) n.id q old).0 own in (o.0, o.1, In_left _ (sends es) (messages_of e.transitions) o.2)
  offered_move e es input x (finishes n moment q new f old foreign move none) i own older = clash (same_code n.id.code c) (own_about scheme c es n.id q old own) foreign

  pub own_offered : (es : List Entry) → Made scheme (Registry c) es → (x : Transition) → In x (transitions_of es) → same_code x.id.code c ≡ true → OwnOffer es x
  own_offered [] made x i own = absurd i
  own_offered (e ∷ es) made x i own =
      elim (In_cases x e.transitions (transitions_of es) i) [
        | inl j ↦ offered_move e es e.input x (made_registry scheme c e es x made j) j own (λ q k mine. own_offered es made.1 q k mine)
        | inr j ↦ let o = own_offered es made.1 x j own in (o.0, o.1, In_left _ (sends es) (messages_of e.transitions) o.2)
      ]

  pub other_said : (es : List Entry) → Made scheme (Registry c) es → (x : Transition) → In x (transitions_of es) → same_code x.id.code c ≡ false → SaysOther c x x.new
  other_said =
      each_move scheme c (λ xs. (x : Transition) → In x xs → same_code x.id.code c ≡ false → SaysOther c x x.new) (λ x i foreign. absurd i)
      (λ es input y made move old x i foreign.
      elim i [
        | inl e ↦ subst (λ (z : Transition). SaysOther c z z.new) e (other_says es input y move (subst (λ (z : Transition). same_code z.id.code c ≡ false) (sym e) foreign))
        | inr j ↦ old x j foreign
      ])

-- ---- at the log

-- the log passes a notification on as it received it
log_passed : (q : Transition) (k : Content) (moment : ℕ) (said : NotifiedStatus) (new : Status) → q.content ≡ Some k → notified_status said ≡ new → (new ≡ Accepted) ⊎ ((new ≡ Rejected) ⊎ (new ≡ Completed))
    → SaysAtLog (moved q new moment (notifies Itl (told_to q.id k new) q.id said ∷ [])) new
log_passed q k moment said Accepted content same h = (said, same, inl refl)
log_passed q k moment said Rejected content same h = (said, same, inl refl)
log_passed q k moment said Completed content same h = (k, content, (said, same, inl refl))
log_passed q k moment said Proposed content same h = absurd (elim h [ inl e ↦ cc (e) | inr e ↦ elim e [ inl d ↦ cc (d) | inr d ↦ cc (d) ] ])
log_passed q k moment said Checked content same h = absurd (elim h [ inl e ↦ cc (e) | inr e ↦ elim e [ inl d ↦ cc (d) | inr d ↦ cc (d) ] ])
log_passed q k moment said Terminated content same h = absurd (elim h [ inl e ↦ cc (e) | inr e ↦ elim e [ inl d ↦ cc (d) | inr d ↦ cc (d) ] ])
log_passed q k moment said Cancelled content same h = absurd (elim h [ inl e ↦ cc (e) | inr e ↦ elim e [ inl d ↦ cc (d) | inr d ↦ cc (d) ] ])

log_says : (scheme : Scheme) (es : List Entry) (input : Input) (x : Transition) → LogMove scheme es input x → SaysAtLog x x.new
log_says scheme es input x (checks p moment found f s is none member) = go found
  where
    go : (found : List ℕ) → SaysAtLog (checked p.id p.content moment.seconds found) (checked_status found)
    go [] = (p.content, refl, inl refl)
    go (n ∷ ns) = (notified.Terminated (n ∷ ns), refl, inl refl)
log_says scheme es input x (passes n moment q held new old kept member right move) =
    elim (log_from q.new (notified_status n.notified) new move) [
      | inl m ↦ log_passed q held moment.seconds n.notified new kept (sym m.1) (elim m.2 [ inl a ↦ inl (m.1 ∙ a) | inr a ↦ inr (inl (m.1 ∙ a)) ])
      | inr m ↦ log_passed q held moment.seconds n.notified new kept (m.2 ∙ sym m.1) (inr (inr m.1))
    ]
log_says scheme es input x (cancels given moment t q held why old kept was) = (notified.Cancelled, refl, inl refl)
log_says scheme es input x (forestalls r moment f member none) = (notified.Cancelled, refl, inl refl)

pub log_has_said : (scheme : Scheme) (es : List Entry) → Made scheme Itl es → (x : Transition) → In x (transitions_of es) → SaysAtLog x x.new
log_has_said scheme [] made x i = absurd i
log_has_said scheme (e ∷ es) made x i =
    elim (In_cases x e.transitions (transitions_of es) i) [
      | inl j ↦ log_says scheme es e.input x (made_log scheme e es x made j)
      | inr j ↦ log_has_said scheme es made.1 x j
    ]

-- ---- a cancellation with a content is sent to its acquirer too

cancelled_move : (scheme : Scheme) (es : List Entry) (input : Input) (x : Transition) → LogMove scheme es input x → x.new ≡ Cancelled → (k : Content) → x.content ≡ Some k
    → In (notifies Itl (Registry k.acquirer) x.id notified.Cancelled) x.messages
cancelled_move scheme es input x (checks p moment found f s is none member) e k content = absurd (go found e)
  where
    go : (found : List ℕ) → checked_status found ≡ Cancelled → ⊥
    go [] e = cc (e)
    go (n ∷ ns) e = cc (e)
cancelled_move scheme es input x (passes n moment q held new old kept member right move) e k content =
    elim (log_from q.new (notified_status n.notified) new move) [
      | inl m ↦
          elim m.2 [
            | inl a ↦ let y : Accepted ≡ Cancelled = sym a ∙ sym m.1 ∙ e in absurd (cc (y))
            | inr a ↦ let y : Rejected ≡ Cancelled = sym a ∙ sym m.1 ∙ e in absurd (cc (y))
          ]
      | inr m ↦ let y : Completed ≡ Cancelled = sym m.1 ∙ e in absurd (cc (y))
    ]
cancelled_move scheme es input x (cancels given moment t q held why old kept was) e k content =
    inr (inl (ap (λ (z : Content). notifies Itl (Registry z.acquirer) q.id notified.Cancelled) (one_some held k (sym kept ∙ content))))
cancelled_move scheme es input x (forestalls r moment f member none) e k content = absurd (cc (content))

pub cancelled_said : (scheme : Scheme) (es : List Entry) → Made scheme Itl es → (x : Transition) → In x (transitions_of es) → x.new ≡ Cancelled → (k : Content) → x.content ≡ Some k
    → In (notifies Itl (Registry k.acquirer) x.id notified.Cancelled) x.messages
cancelled_said scheme [] made x i e k content = absurd i
cancelled_said scheme (e ∷ es) made x i c k content =
    elim (In_cases x e.transitions (transitions_of es) i) [
      | inl j ↦ cancelled_move scheme es e.input x (made_log scheme e es x made j) c k content
      | inr j ↦ cancelled_said scheme es made.1 x j c k content
    ]
