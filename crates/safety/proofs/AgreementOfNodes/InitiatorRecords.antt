-- What a trusted initiator of a transfer recorded, given that the log knows the transfer. The log heard a proposal of
-- the transfer, the proposal was sent, and who sends a proposal has recorded it with the same content for good. So
-- the initiator has a newest transition of the transfer, and its content is the one at the log.
use Rattle.protocol.specs.Claims.{at_registry}
use Rattle.std.proofs.Common.{◌≡◌, List, [], ◌∷◌, Bool, true, false, Some, inl, inr, refl, sym, ap, subst, ◌∙◌}
use Rattle.units.proofs.Same.{same_code-refl}
use Rattle.units.specs.Code.{same_code}
use Rattle.units.specs.declared.code.Node.{Node}
use Rattle.units.specs.declared.code.Node.TheVariants.{Itl, Registry}
use Rattle.status.specs.Content.{Content}
use Rattle.status.specs.declared.id.TransactionId.{TransactionId}
use Rattle.status.specs.declared.status.Status.TheVariants.{Completed}
use Rattle.protocol.proofs.MessageForms as message
use Rattle.scheme.specs.declared.registries.Scheme.{Scheme}
use Rattle.protocol.specs.History.{Transition, Entry, transitions_of, newest, sends}
use Rattle.safety.proofs.AgreementOfNodes.CausalHistories.{CausalAmong, heard_sent}
use Rattle.safety.proofs.AgreementOfNodes.CompletionsAgree.{initiator_has}
use Rattle.safety.proofs.OneRegistry.TransactionEnds.{ends_last, own_contents, completed_sent, proposer, proposer_or_none, proposer_unless, Forestalled}
use Rattle.safety.proofs.OneRegistry.RegistrySendings.{asked_known}
use Rattle.safety.proofs.OneLog.OwnersInLog.{IsBusy, log_live}
use Rattle.safety.proofs.MovesAndHistories.NewestTransitions.{Made, made_log, newest_id, newest_append, newest_in}
use Rattle.units.proofs.Lists.Membership.{In, In_cases}
use Rattle.units.proofs.Lists.OneValue.{one_some}
use Rattle.safety.proofs.MovesAndHistories.TableMoves.{newest_some}
use Rattle.safety.proofs.OneLog.LogHearings.{log_pair, log_keeps_content}

-- the initiator's newest transition, of a transfer whose newest one at the log is this
pub record Begun (f : Node → List Entry) (t : TransactionId) (x : Transition) : Type 0 where
  pub last : Transition
  pub is : newest (transitions_of (f (Registry t.code))) t ≡ Some last
  pub own : same_code last.id.code t.code ≡ true
  pub content : Content
  pub there : last.content ≡ Some content
  pub known : x.content ≡ Some content
  pub acquirer_other : same_code content.acquirer t.code ≡ false
  pub ended : x.new ≡ Completed → last.new ≡ Completed

-- all transitions of a transfer at the log have one content
pub log_one_content : (scheme : Scheme) (es : List Entry) → Made scheme Itl es → (x q : Transition) → In x (transitions_of es) → newest (transitions_of es) x.id ≡ Some q → x.content ≡ q.content
log_one_content scheme [] made x q i h = absurd i
log_one_content scheme (e ∷ es) made x q i h =
    elim (In_cases x e.transitions (transitions_of es) i) [
      | inl j ↦
          let u = newest_in e.transitions (transitions_of es) x x.id j refl in
          (log_pair scheme es e.input e.input x u.0 refl (sym u.2) (made_log scheme e es x made j) (made_log scheme e es u.0 made u.1)).1 ∙ ap (λ (z : Transition). z.content) (one_some u.0 q (sym u.3 ∙ h))
      | inr j ↦
          elim (newest_append e.transitions (transitions_of es) x.id) [
            | inl u ↦ log_one_content scheme es made.1 x q j (sym u ∙ h)
            | inr u ↦
                let older = newest_some (transitions_of es) x j in
                let was = subst (λ z. newest (transitions_of es) z ≡ Some older.0) (sym u.2) older.1 in
                let busy = log_live scheme es e.input u.0 older.0 (made_log scheme e es u.0 made u.1) was in
                let p = proposer scheme es made.1 x.id older.0 older.1 (λ c. subst IsBusy c busy) in
                let kept =
                log_keeps_content scheme es e.input u.0 older.0 p.content (made_log scheme e es u.0 made u.1) (subst (λ z. newest (transitions_of es) z ≡ Some older.0) (sym u.2) older.1) p.is in
                log_one_content scheme es made.1 x older.0 j older.1 ∙ p.is ∙ sym kept ∙ ap (λ (z : Transition). z.content) (one_some u.0 q (sym u.3 ∙ h))
          ]
    ]

-- the newest transition of a transfer at its initiator, and its content
pub record Initiated (f : Node → List Entry) (t : TransactionId) : Type 0 where
  pub last : Transition
  pub is : newest (at_registry f t.code) t ≡ Some last
  pub content : Content
  pub known : last.content ≡ Some content

module _ {trusted : Node → Bool} (scheme : Scheme) (f : Node → List Entry) (causal : CausalAmong trusted scheme f) where
  -- what the log has a record of, its initiator proposed
  pub initiated : (t : TransactionId) (x : Transition) → trusted (Registry t.code) ≡ true → newest (transitions_of (f Itl)) t ≡ Some x → Initiated f t
  initiated t x trust h =
      elim (proposer_or_none scheme (f Itl) (causal.made Itl) t x h) [
        | inl b ↦
            let d = t.code in
            let es = f (Registry d) in
            let sent = subst (λ m. In (message.request b.request) (sends (f m))) b.sender (causal.sent Itl (message.request b.request) b.got (subst (λ z. trusted z ≡ true) (sym b.sender) trust)) in
            let o = asked_known scheme d es (causal.made (Registry d)) b.request sent in
            let last : newest (transitions_of es) t ≡ Some o.0 = subst (λ z. newest (transitions_of es) z ≡ Some o.0) b.about o.1 in
            let id = newest_id (transitions_of es) t o.0 last in
            let mine = own_contents scheme d es (causal.made (Registry d)) o.0 id.0 (subst (λ (z : TransactionId). same_code z.code d ≡ true) (sym id.1) (same_code-refl d)) in
            record { last = o.0; is = last; content = mine.content; known = mine.is }
        | inr p ↦ let o = initiator_has scheme f causal t p.content trust p.got in record { last = o.0; is = o.1; content = p.content; known = o.2 }
      ]

  pub begun : (t : TransactionId) (x : Transition) → trusted (Registry t.code) ≡ true → newest (transitions_of (f Itl)) t ≡ Some x → (Forestalled (f Itl) t x → ⊥) → Begun f t x
  begun t x trust h other =
      let d = t.code in
      let es = f (Registry d) in
      let p = proposer_unless scheme (f Itl) (causal.made Itl) t x h other in
      let o = initiator_has scheme f causal t p.content trust p.got in
      let id = newest_id (transitions_of es) t o.0 o.1 in
      let own : same_code o.0.id.code d ≡ true = subst (λ (z : TransactionId). same_code z.code d ≡ true) (sym id.1) (same_code-refl d) in
      let mine = own_contents scheme d es (causal.made (Registry d)) o.0 id.0 own in
      let same = one_some mine.content p.content (sym mine.is ∙ o.2) in
      record {
        last = o.0;
        is = o.1;
        own = own;
        content = p.content;
        there = o.2;
        known = p.is;
        acquirer_other = subst (λ (z : Content). same_code z.acquirer d ≡ false) same mine.acquirer_other;
        ended = λ done.
            let g = p.ended done in
            let q = completed_sent scheme d es (causal.made (Registry d)) g.notification (heard_sent scheme f causal Itl (Registry d) t Completed trust g) g.told in
            let last : newest (transitions_of es) t ≡ Some q.0 = subst (λ z. newest (transitions_of es) z ≡ Some q.0) (q.2 ∙ g.about) (ends_last scheme d es (causal.made (Registry d)) q.0 q.1 q.3) in
            ap (λ (z : Transition). z.new) (one_some o.0 q.0 (sym o.1 ∙ last)) ∙ q.3;
      }
