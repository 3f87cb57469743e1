-- The messages that the log received, by its history, and that its status agrees with the messages that it sent. A
-- transfer that stands Accepted or Completed was accepted by its acquirer (`log_backed`). The status in a notification
-- of the log to a registry is still the log's status, except that Accepted may have become Completed (`log_sent`). The
-- proof looks at the move that sent the notification, and then at each later move of the same transaction. The content
-- that the log passed on also stays (`log_offered`).
use Rattle.std.proofs.Common.{◌≡◌, ℕ, List, [], ◌∷◌, false, Option, Some, None, ◌⊎◌, inl, inr, refl, sym, ap, subst, ◌∙◌}
use Rattle.std.proofs.lemmas.Bool.{not-false}
use Rattle.units.proofs.Same.{node_of_same}
use Rattle.units.specs.declared.code.Node.{Node}
use Rattle.units.specs.declared.code.Node.TheVariants.{Itl, Registry}
use Rattle.status.specs.Content.{Content}
use Rattle.status.specs.declared.id.TransactionId.{TransactionId}
use Rattle.status.specs.declared.moment.Moment.{Moment}
use Rattle.status.specs.declared.status.Status.{Status}
use Rattle.status.specs.declared.status.Status.TheVariants.{Checked, Accepted, Rejected, Terminated, Cancelled, Completed}
use Rattle.wire.specs.NotifiedStatuses.{notified_status}
use Rattle.wire.specs.declared.input.Input.{Input}
use Rattle.wire.specs.declared.input.Input.TheVariants.{Received}
use Rattle.protocol.proofs.MessageForms as message
use Rattle.protocol.proofs.MessageForms.{ProposalMessage, NotificationMessage, RequestMessage, one_notified, one_proposal, apart, received, one_request}
use Rattle.scheme.specs.declared.registries.Scheme.{Scheme}
use Rattle.protocol.specs.AtLog.{ledger, is_no_registry, is_not_acquirer, is_from_another}
use Rattle.protocol.specs.Checks.{log_findings}
use Rattle.protocol.specs.History.{Transition, Entry, transitions_of, newest, sends, messages_of}
use Rattle.safety.proofs.MovesAndHistories.TransitionForms.{checked_status, checked_message}
use Rattle.safety.proofs.MovesAndHistories.NewestTransitions.{Made, Heard, heard_later, made_log, newest_id, newest_append, newest_in}
use Rattle.units.proofs.Lists.Membership.{In, In_cases, In_flat_map}
use Rattle.units.proofs.Lists.OneValue.{one_some}
use Rattle.safety.proofs.MovesAndHistories.TableMoves.{LogMove, checks, passes, cancels, forestalls, Withdraws, cleans, requested}
use Rattle.safety.proofs.MovesAndHistories.TableRows.{log_from}

-- ---- what stands Accepted or Completed was accepted by its acquirer

pub record Backed (es : List Entry) (t : TransactionId) (x : Transition) : Type 0 where
  pub content : Content
  pub heard : Heard es (Registry content.acquirer) t Accepted
  pub known : x.content ≡ Some content

abbrev pub IsAgreed : Status → Type 0
IsAgreed Accepted = Unit {0}
IsAgreed Completed = Unit {0}
IsAgreed _ = ⊥

checked_new : (found : List ℕ) → IsAgreed (checked_status found) → ⊥
checked_new [] h = h
checked_new (c ∷ cs) h = h

module _ (scheme : Scheme) where
  -- who sent an Accepted that moved a transfer: the acquirer of its content
  pub from_acquirer : (from : Node) (k : Option Content) → is_no_registry scheme from ≡ false → is_not_acquirer from k ≡ false → (c : Content) × (k ≡ Some c) × (from ≡ Registry c.acquirer)
  from_acquirer from None member right = absurd (cc (right))
  from_acquirer from (Some c) member right = (c, refl, node_of_same from (Registry c.acquirer) (not-false _ right))

  backed_move : (es : List Entry) (e : Entry) (t : TransactionId) (input : Input) (x : Transition) → e.input ≡ input → LogMove scheme es input x → x.id ≡ t → IsAgreed x.new
      → ((q : Transition) → newest (transitions_of es) t ≡ Some q → IsAgreed q.new → Backed es t q) → Backed (e ∷ es) t x
  backed_move es e t input x i (checks p moment found f s is none member) same h older = absurd (checked_new found h)
  backed_move es e t input x i (cancels given moment u q held why old kept was) same h older = absurd h
  backed_move es e t input x i (forestalls r moment f member none) same h older = absurd h
  backed_move es e t input x i (passes n moment q held new old kept member right move) same h older =
      let about : n.id ≡ t = sym (newest_id (transitions_of es) n.id q old).1 ∙ same in
      elim (log_from q.new (notified_status n.notified) new move) [
        | inl m ↦
            elim m.2 [
              | inl a ↦
                  let f = from_acquirer n.from q.content member (subst (λ s. is_from_another n.from n.id q.content s ≡ false) a right) in
                  record {
                    content = f.0;
                    heard = record { notification = n; got = inl (moment, i); sender = f.2; about = about; told = a };
                    known = f.1;
                  }
              | inr a ↦ absurd (subst IsAgreed (m.1 ∙ a) h)
            ]
        | inr m ↦
            let b = older q (subst (λ z. newest (transitions_of es) z ≡ Some q) about old) (subst IsAgreed (sym m.0) tt) in
            record { content = b.content; heard = heard_later e es (Registry b.content.acquirer) t Accepted b.heard; known = b.known }
      ]

  pub log_backed : (es : List Entry) → Made scheme Itl es → (t : TransactionId) (x : Transition) → newest (transitions_of es) t ≡ Some x → IsAgreed x.new → Backed es t x
  log_backed [] made t x h a = absurd (cc)
  log_backed (e ∷ es) made t x h a =
      elim (newest_append e.transitions (transitions_of es) t) [
        | inl u ↦
            let b = log_backed es made.1 t x (sym u ∙ h) a in
            record { content = b.content; heard = heard_later e es (Registry b.content.acquirer) t Accepted b.heard; known = b.known }
        | inr u ↦
            let j : u.0 ≡ x = one_some u.0 x (sym u.3 ∙ h) in
            backed_move es e t e.input x refl (subst (λ z. LogMove scheme es e.input z) j (made_log scheme e es u.0 made u.1)) (subst (λ (z : Transition). z.id ≡ t) j u.2) a
            (λ q old b. log_backed es made.1 t q old b)
      ]

-- ---- what the log sent, it stands by

-- the log stands so, or went on from Accepted to Completed
abbrev pub IsPast : Status → Option Transition → Type 0
IsPast s None = ⊥
IsPast s (Some x) = (x.new ≡ s) ⊎ ((s ≡ Accepted) × (x.new ≡ Completed))

checked_notified : (t : TransactionId) (k : Content) (found : List ℕ) (n : NotificationMessage) → In (message.notification n) (checked_message t k found ∷ [])
    → (t ≡ n.id) × (checked_status found ≡ notified_status n.notified) × (notified_status n.notified ≡ Terminated)
checked_notified t k [] n (inl e) = apart e refl
checked_notified t k [] n (inr h) = absurd h
checked_notified t k (c ∷ cs) n (inl e) = let s = one_notified _ n e in (ap (λ (z : NotificationMessage). z.id) s, ap (λ (z : NotificationMessage). notified_status z.notified) s, sym (ap (λ (z : NotificationMessage). notified_status z.notified) s))
checked_notified t k (c ∷ cs) n (inr h) = absurd h

module _ (scheme : Scheme) where
  told_new : (a new told : Status) → new ≡ told → ((a ≡ Checked) × (new ≡ told) × ((told ≡ Accepted) ⊎ (told ≡ Rejected))) ⊎ ((a ≡ Accepted) × (new ≡ Completed) × (told ≡ Completed)) → told ≡ Checked → ⊥
  told_new a new told e (inl m) c =
      elim m.2 [
        | inl b ↦ let x : Accepted ≡ Checked = sym b ∙ c in cc (x)
        | inr b ↦ let x : Rejected ≡ Checked = sym b ∙ c in cc (x)
      ]
  told_new a new told e (inr m) c = let x : Completed ≡ Checked = sym m.2 ∙ c in cc (x)

  new_told : (a told new : Status) → ((a ≡ Checked) × (new ≡ told) × ((told ≡ Accepted) ⊎ (told ≡ Rejected))) ⊎ ((a ≡ Accepted) × (new ≡ Completed) × (told ≡ Completed)) → new ≡ told
  new_told a told new (inl m) = m.1
  new_told a told new (inr m) = m.1 ∙ sym m.2

  pub log_notified_move : (es : List Entry) (input : Input) (x : Transition) (n : NotificationMessage) → LogMove scheme es input x → In (message.notification n) x.messages
      → (x.id ≡ n.id) × (x.new ≡ notified_status n.notified) × (notified_status n.notified ≡ Checked → ⊥)
  log_notified_move es input x n (checks p moment found f s is none member) h =
      let g = checked_notified p.id p.content found n h in (g.0, g.1, λ e. absurd (let y : Terminated ≡ Checked = sym g.2 ∙ e in cc (y)))
  log_notified_move es input x n (passes m moment q held new old kept member right move) (inr h) = absurd h
  log_notified_move es input x n (passes m moment q held new old kept member right move) (inl h) =
      let s = one_notified _ n h in
      let from = log_from q.new (notified_status m.notified) new move in
      let same : notified_status m.notified ≡ notified_status n.notified = ap (λ (z : NotificationMessage). notified_status z.notified) s in
      (ap (λ (z : NotificationMessage). z.id) s, new_told q.new (notified_status m.notified) new from ∙ same, λ e. told_new q.new new (notified_status m.notified) (new_told q.new (notified_status m.notified) new from) from (same ∙ e))
  log_notified_move es input x n (cancels given moment t q held why old kept was) (inl e) =
      let s = one_notified _ n e in
      (ap (λ (z : NotificationMessage). z.id) s, ap (λ (z : NotificationMessage). notified_status z.notified) s, λ c. let y : Cancelled ≡ Checked = ap (λ (z : NotificationMessage). notified_status z.notified) s ∙ c in absurd (cc (y)))
  log_notified_move es input x n (cancels given moment t q held why old kept was) (inr (inl e)) =
      let s = one_notified _ n e in
      (ap (λ (z : NotificationMessage). z.id) s, ap (λ (z : NotificationMessage). notified_status z.notified) s, λ c. let y : Cancelled ≡ Checked = ap (λ (z : NotificationMessage). notified_status z.notified) s ∙ c in absurd (cc (y)))
  log_notified_move es input x n (cancels given moment t q held why old kept was) (inr (inr h)) = absurd h
  log_notified_move es input x n (forestalls r moment f member none) (inl e) =
      let s = one_notified _ n e in
      (ap (λ (z : NotificationMessage). z.id) s, ap (λ (z : NotificationMessage). notified_status z.notified) s, λ c. let y : Cancelled ≡ Checked = ap (λ (z : NotificationMessage). notified_status z.notified) s ∙ c in absurd (cc (y)))
  log_notified_move es input x n (forestalls r moment f member none) (inr h) = absurd h

  -- what cancels a transaction is no proposal and no notification, and a request cancels none that is not known
  no_proposal : {X : Type 0} (given : Input) (t : TransactionId) (moment : Moment) (p : ProposalMessage) (at_moment : Moment) → Withdraws given t moment → given ≡ Received (message.proposal p) at_moment → X
  no_proposal given t moment p at_moment (cleans _ _) e = absurd (cc (e))
  no_proposal given t moment p at_moment (requested _ _ _) e = apart (received e) refl

  no_notification : {X : Type 0} (given : Input) (t : TransactionId) (moment : Moment) (n : NotificationMessage) (at_moment : Moment) → Withdraws given t moment → given ≡ Received (message.notification n) at_moment → X
  no_notification given t moment n at_moment (cleans _ _) e = absurd (cc (e))
  no_notification given t moment n at_moment (requested _ _ _) e = apart (received e) refl

  same_request : (given : Input) (t : TransactionId) (moment : Moment) (r : RequestMessage) (at_moment : Moment) → Withdraws given t moment → given ≡ Received (message.request r) at_moment → t ≡ r.id
  same_request given t moment r at_moment (cleans _ _) e = absurd (cc (e))
  same_request given t moment r at_moment (requested q _ _) e = ap (λ (z : RequestMessage). z.id) (one_request q r (received e))

  known_and_new : {X : Type 0} (es : List Entry) (t u : TransactionId) (q : Transition) → t ≡ u → newest (transitions_of es) t ≡ Some q → newest (transitions_of es) u ≡ None → X
  known_and_new es t u q same old none = absurd (let e = sym old ∙ ap (newest (transitions_of es)) same ∙ none in cc (e))

  -- transitions of one input with one identifier have one status and one content
  pub log_pair : (es : List Entry) (i j : Input) (x y : Transition) → i ≡ j → x.id ≡ y.id → LogMove scheme es i x → LogMove scheme es j y → (x.new ≡ y.new) × (x.content ≡ y.content)
  log_pair es i j x y e same (checks p moment found f s is none member) (checks p' moment' found' f' s' is' none' member') =
      let a = one_proposal p p' (received e) in
      let b = ap (λ (z : ProposalMessage). log_findings scheme (ledger scheme es) z.id.code z.content) a in
      (ap checked_status (is ∙ b ∙ sym is'), ap (λ (z : ProposalMessage). Some z.content) a)
  log_pair es i j x y e same (checks p moment found f s is none member) (passes n' moment' q' held' new' old' kept' member' right' move') = apart (received e) refl
  log_pair es i j x y e same (checks p moment found f s is none member) (cancels given' moment' t' q' held' why' old' kept' was') = no_proposal j t' moment' p moment why' (sym e)
  log_pair es i j x y e same (checks p moment found f s is none member) (forestalls r' moment' f' member' none') = apart (received e) refl
  log_pair es i j x y e same (passes n moment q held new old kept member right move) (checks p' moment' found' f' s' is' none' member') = apart (received e) refl
  log_pair es i j x y e same (passes n moment q held new old kept member right move) (passes n' moment' q' held' new' old' kept' member' right' move') =
      let a = one_notified n n' (received e) in
      let b : Some q ≡ Some q' = sym old ∙ ap (λ (z : NotificationMessage). newest (transitions_of es) z.id) a ∙ old' in
      let c : q ≡ q' = cc (b) in
      let told = ap (λ (z : NotificationMessage). notified_status z.notified) a in
      let here = new_told q.new (notified_status n.notified) new (log_from q.new (notified_status n.notified) new move) in
      let there = new_told q'.new (notified_status n'.notified) new' (log_from q'.new (notified_status n'.notified) new' move') in
      (here ∙ told ∙ sym there, ap (λ (z : Transition). z.content) c)
  log_pair es i j x y e same (passes n moment q held new old kept member right move) (cancels given' moment' t' q' held' why' old' kept' was') = no_notification j t' moment' n moment why' (sym e)
  log_pair es i j x y e same (passes n moment q held new old kept member right move) (forestalls r' moment' f' member' none') = apart (received e) refl
  log_pair es i j x y e same (cancels given moment t q held why old kept was) (checks p' moment' found' f' s' is' none' member') = no_proposal i t moment p' moment' why e
  log_pair es i j x y e same (cancels given moment t q held why old kept was) (passes n' moment' q' held' new' old' kept' member' right' move') = no_notification i t moment n' moment' why e
  log_pair es i j x y e same (cancels given moment t q held why old kept was) (forestalls r' moment' f' member' none') = known_and_new es t r'.id q (same_request i t moment r' moment' why e) old none'
  log_pair es i j x y e same (forestalls r moment f member none) (checks p' moment' found' f' s' is' none' member') = apart (received e) refl
  log_pair es i j x y e same (forestalls r moment f member none) (passes n' moment' q' held' new' old' kept' member' right' move') = apart (received e) refl
  log_pair es i j x y e same (forestalls r moment f member none) (cancels given' moment' t' q' held' why' old' kept' was') = known_and_new es t' r.id q' (same_request j t' moment' r moment why' (sym e)) old' none
  log_pair es i j x y e same (forestalls r moment f member none) (forestalls r' moment' f' member' none') = (refl, refl)
  log_pair es i j x y e same (cancels given moment t q held why old kept was) (cancels given' moment' t' q' held' why' old' kept' was') =
      let a : t ≡ t' = sym (newest_id (transitions_of es) t q old).1 ∙ same ∙ (newest_id (transitions_of es) t' q' old').1 in
      let b : Some q ≡ Some q' = sym old ∙ ap (newest (transitions_of es)) a ∙ old' in
      let c : q ≡ q' = cc (b) in
      (refl, ap (λ (z : Transition). z.content) c)

  -- a later transition keeps it
  log_keeps : (es : List Entry) (input : Input) (x : Transition) (s : Status) → (s ≡ Checked → ⊥) → LogMove scheme es input x → IsPast s (newest (transitions_of es) x.id) → IsPast s (Some x)
  log_keeps es input x s not_checked (checks p moment found f t is none member) past = absurd (subst (IsPast s) none past)
  log_keeps es input x s not_checked (passes n moment q held new old kept member right move) past =
      let at_q : IsPast s (Some q) = subst (IsPast s) (subst (λ z. newest (transitions_of es) z ≡ Some q) (sym (newest_id (transitions_of es) n.id q old).1) old) past in
      elim (log_from q.new (notified_status n.notified) new move) [
        | inl m ↦
            elim at_q [
              | inl e ↦ absurd (not_checked (sym e ∙ m.0))
              | inr e ↦ absurd (let y : Completed ≡ Checked = sym e.1 ∙ m.0 in cc (y))
            ]
        | inr m ↦
            elim at_q [
              | inl e ↦ inr (sym e ∙ m.0, m.1)
              | inr e ↦ absurd (let y : Completed ≡ Accepted = sym e.1 ∙ m.0 in cc (y))
            ]
      ]
  log_keeps es input x s not_checked (forestalls r moment f member none) past = absurd (subst (IsPast s) none past)
  log_keeps es input x s not_checked (cancels given moment t q held why old kept was) past =
      let at_q : IsPast s (Some q) = subst (IsPast s) (subst (λ z. newest (transitions_of es) z ≡ Some q) (sym (newest_id (transitions_of es) t q old).1) old) past in
      elim at_q [
        | inl e ↦ absurd (not_checked (sym e ∙ was))
        | inr e ↦ absurd (let y : Completed ≡ Checked = sym e.1 ∙ was in cc (y))
      ]

  pub log_sent : (es : List Entry) → Made scheme Itl es → (n : NotificationMessage) → In (message.notification n) (sends es) → IsPast (notified_status n.notified) (newest (transitions_of es) n.id) × (notified_status n.notified ≡ Checked → ⊥)
  log_sent [] made n h = absurd h
  log_sent (e ∷ es) made n h =
      elim (In_cases (message.notification n) (sends es) (messages_of e.transitions) h) [
        | inl old ↦
            let p = log_sent es made.1 n old in
            let s = notified_status n.notified in (
              elim (newest_append e.transitions (transitions_of es) n.id) [
                | inl u ↦ subst (IsPast s) (sym u) p.0
                | inr u ↦ subst (IsPast s) (sym u.3) (log_keeps es e.input u.0 s p.1 (made_log scheme e es u.0 made u.1) (subst (λ z. IsPast s (newest (transitions_of es) z)) (sym u.2) p.0))
              ],
              p.1,
            )
        | inr new ↦
            let g = In_flat_map (λ (q : Transition). q.messages) (message.notification n) e.transitions new in
            let move = made_log scheme e es g.0 made g.1 in
            let m = log_notified_move es e.input g.0 n move g.2 in
            let u = newest_in e.transitions (transitions_of es) g.0 n.id g.1 m.0 in (
              subst (IsPast (notified_status n.notified)) (sym u.3) (inl ((log_pair es e.input e.input u.0 g.0 refl (u.2 ∙ sym m.0) (made_log scheme e es u.0 made u.1) move).0 ∙ m.1)),
              m.2,
            )
      ]

-- ---- the content that the log passes on stays that of its transfer

module _ (scheme : Scheme) where
  log_offer_move : (es : List Entry) (input : Input) (x : Transition) (p : ProposalMessage) → LogMove scheme es input x → In (message.proposal p) x.messages
      → (x.id ≡ p.id) × (x.content ≡ Some p.content) × (p.to ≡ Registry p.content.acquirer)
  log_offer_move es input x p (checks q moment found f s is none member) h = offer found h
    where
      offer : (g : List ℕ) → In (message.proposal p) (checked_message q.id q.content g ∷ []) → (q.id ≡ p.id) × (Some q.content ≡ Some p.content) × (p.to ≡ Registry p.content.acquirer)
      offer [] (inl e) =
          let s = one_proposal _ p e in
          (ap (λ (z : ProposalMessage). z.id) s, ap (λ (z : ProposalMessage). Some z.content) s, sym (ap (λ (z : ProposalMessage). z.to) s) ∙ ap (λ (z : ProposalMessage). Registry z.content.acquirer) s)
      offer [] (inr h) = absurd h
      offer (c ∷ cs) (inl e) = apart e refl
      offer (c ∷ cs) (inr h) = absurd h
  log_offer_move es input x p (passes n moment q held new old kept member right move) (inl e) = apart e refl
  log_offer_move es input x p (passes n moment q held new old kept member right move) (inr h) = absurd h
  log_offer_move es input x p (cancels given moment t q held why old kept was) (inl e) = apart e refl
  log_offer_move es input x p (cancels given moment t q held why old kept was) (inr (inl e)) = apart e refl
  log_offer_move es input x p (cancels given moment t q held why old kept was) (inr (inr h)) = absurd h
  log_offer_move es input x p (forestalls r moment f member none) (inl e) = apart e refl
  log_offer_move es input x p (forestalls r moment f member none) (inr h) = absurd h

  pub log_keeps_content : (es : List Entry) (input : Input) (x y : Transition) (k : Content) → LogMove scheme es input x → newest (transitions_of es) x.id ≡ Some y → y.content ≡ Some k → x.content ≡ Some k
  log_keeps_content es input x y k (checks p moment found f s is none member) h c = absurd (let e = sym none ∙ h in cc (e))
  log_keeps_content es input x y k (passes n moment q held new old kept member right move) h c =
      let a : newest (transitions_of es) q.id ≡ Some q = subst (λ z. newest (transitions_of es) z ≡ Some q) (sym (newest_id (transitions_of es) n.id q old).1) old in
      let e = sym a ∙ h in
      let b : q ≡ y = cc (e) in
      ap (λ (z : Transition). z.content) b ∙ c
  log_keeps_content es input x y k (forestalls r moment f member none) h c = absurd (let e = sym none ∙ h in cc (e))
  log_keeps_content es input x y k (cancels given moment t q held why old kept was) h c =
      let a : newest (transitions_of es) q.id ≡ Some q = subst (λ z. newest (transitions_of es) z ≡ Some q) (sym (newest_id (transitions_of es) t q old).1) old in
      let e = sym a ∙ h in
      let b : q ≡ y = cc (e) in
      ap (λ (z : Transition). z.content) b ∙ c

  pub log_offered : (es : List Entry) → Made scheme Itl es → (p : ProposalMessage) → In (message.proposal p) (sends es)
      → (x : Transition) × (newest (transitions_of es) p.id ≡ Some x) × (x.content ≡ Some p.content) × (p.to ≡ Registry p.content.acquirer)
  log_offered [] made p h = absurd h
  log_offered (e ∷ es) made p h =
      elim (In_cases (message.proposal p) (sends es) (messages_of e.transitions) h) [
        | inl old ↦
            let o = log_offered es made.1 p old in
            elim (newest_append e.transitions (transitions_of es) p.id) [
              | inl u ↦ (o.0, u ∙ o.1, o.2, o.3)
              | inr u ↦ (
                u.0,
                u.3,
                log_keeps_content es e.input u.0 o.0 p.content (made_log scheme e es u.0 made u.1) (subst (λ z. newest (transitions_of es) z ≡ Some o.0) (sym u.2) o.1) o.2,
                o.3,
              )
            ]
        | inr new ↦
            let g = In_flat_map (λ (q : Transition). q.messages) (message.proposal p) e.transitions new in
            let move = made_log scheme e es g.0 made g.1 in
            let n = log_offer_move es e.input g.0 p move g.2 in
            let u = newest_in e.transitions (transitions_of es) g.0 p.id g.1 n.0 in
            (u.0, u.3, (log_pair scheme es e.input e.input u.0 g.0 refl (u.2 ∙ sym n.0) (made_log scheme e es u.0 made u.1) move).1 ∙ n.1, n.2)
      ]
