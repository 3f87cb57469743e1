-- Where the initiator of a transfer has ended, and its last messages are settled, it is open nowhere.
use Rattle.units.specs.declared.code.Node.{Node}
use Rattle.std.proofs.Common.{◌≡◌, List, Some, inl, inr, refl, sym, ap, subst, ◌∙◌}
use Rattle.units.specs.declared.code.Node.TheVariants.{Itl, Registry}
use Rattle.status.specs.Content.{Content}
use Rattle.status.specs.Rows.{acquirer_row}
use Rattle.status.specs.declared.id.TransactionId.{TransactionId}
use Rattle.status.specs.declared.status.Status.{Status}
use Rattle.status.specs.declared.status.Status.TheVariants.{Proposed, Checked, Accepted, Rejected, Terminated, Cancelled, Completed}
use Rattle.scheme.specs.declared.registries.Scheme.{Scheme}
use Rattle.protocol.specs.Claims.{IsEnd}
use Rattle.protocol.specs.Effects.{notifies}
use Rattle.protocol.specs.History.{Entry, Transition, sends}
use Rattle.protocol.specs.WayOut.{IsOpen}
use Rattle.safety.proofs.AgreementOfNodes.CausalHistories.{Causal, log_said}
use Rattle.safety.proofs.AgreementOfNodes.CompletionsAgree.{log_has, initiator_has}
use Rattle.safety.proofs.OneRegistry.TransactionEnds.{proposer_of}
use Rattle.units.proofs.Lists.Membership.{In}
use Rattle.units.proofs.Lists.OneValue.{one_some}
use Rattle.safety.proofs.OneTransfer.MessageRows.{Last, acquirer_takes}
use Rattle.safety.proofs.WorldLemmas.NodesWithStation.{Unplaced}
use Rattle.safety.proofs.SixRounds.SettledMessages.{Settled, not_settled}
use Rattle.safety.proofs.OneRegistry.RegistryHearings.{Cause, told}
use Rattle.safety.proofs.OneTransfer.StagesAtNodes.{Stage, table_at, log_tells_acquirer, closed_when, only, ended_acquirer, told_end, acquirer_content}
use Rattle.wire.specs.declared.notified.NotifiedStatus.TheVariants as notified

module _ (scheme : Scheme) (f : Node → List Entry) (causal : Causal scheme f) (unplaced : Unplaced scheme f) (t : TransactionId) where
  -- the acquirer has settled the cancellation
  pub acquirer_cancelled : (x : Transition) (k : Content) → Stage scheme f t x k → In (notifies Itl (Registry k.acquirer) t notified.Cancelled) (sends (f Itl)) → Settled scheme f (notifies Itl (Registry k.acquirer) t notified.Cancelled)
      → (p : Transition) → Last f (Registry k.acquirer) t p → p.new ≡ Accepted → ⊥
  acquirer_cancelled x k s sent settled p there e =
      let has = acquirer_content scheme f causal t x k s p there (λ d. let y : Accepted ≡ Cancelled = sym e ∙ d in cc (y)) in
      not_settled scheme (f (Registry k.acquirer)) _ _ (acquirer_takes scheme f causal unplaced settled.0 k.acquirer t notified.Cancelled p has.0 Cancelled has.1 sent there s.other (table_at acquirer_row p.new Accepted Cancelled Cancelled e refl)) settled.1

  -- what the log cancelled after the acquirer had accepted it, it knows with its content
  pub cancel_content : (x : Transition) (k : Content) → Stage scheme f t x k → (l : Transition) → Last f Itl t l → (p : Transition) → Last f (Registry k.acquirer) t p → p.new ≡ Accepted → l.content ≡ Some k
  cancel_content x k s l log p there e =
      let got = subst (λ st. Cause k.acquirer (f (Registry k.acquirer)) t st) e (told scheme k.acquirer (f (Registry k.acquirer)) (causal.made (Registry k.acquirer)) t p there s.other) in
      let o = log_has scheme f causal refl k.acquirer t got.0 got.1 in
      let q = proposer_of scheme (f Itl) (causal.made Itl) t o.0 got.0 o.1 o.2 in
      let i = initiator_has scheme f causal t q.content refl q.got in
      let named : q.content ≡ k = one_some q.content k (sym i.2 ∙ ap (λ (y : Transition). y.content) (one_some i.0 x (sym i.1 ∙ s.is)) ∙ s.content) in
      ap (λ (y : Transition). y.content) (one_some l o.0 (sym log ∙ o.1)) ∙ q.is ∙ ap Some named

  -- and told the acquirer
  pub cancel_sent : (x : Transition) (k : Content) → Stage scheme f t x k → (l : Transition) → Last f Itl t l → l.new ≡ Cancelled → (p : Transition) → Last f (Registry k.acquirer) t p → p.new ≡ Accepted
      → In (notifies Itl (Registry k.acquirer) t notified.Cancelled) (sends (f Itl))
  cancel_sent x k s l log log_cancelled p there e = log_tells_acquirer scheme f causal t x k s l log log_cancelled (cancel_content x k s l log p there e)

  -- closed, from what stands at the three nodes
  pub closed_here : (x : Transition) (k : Content) → Stage scheme f t x k → IsEnd x.new → (x.new ≡ Completed → (p : Transition) × Last f (Registry k.acquirer) t p × (p.new ≡ Completed))
      → (x.new ≡ Cancelled → In (notifies Itl (Registry k.acquirer) t notified.Cancelled) (sends (f Itl)) → (p : Transition) → Last f (Registry k.acquirer) t p → p.new ≡ Accepted → ⊥)
      → IsOpen f t → ⊥
  closed_here x k s ends completes cancels = at x.new refl ends
    where
      ended_so : (l : Transition) → Last f Itl t l → IsEnd l.new → ((p : Transition) → Last f (Registry k.acquirer) t p → IsEnd p.new) → IsOpen f t → ⊥
      ended_so l log e h = closed_when scheme f causal t x k s ends (only f t Itl l log e) h

      cancelled_acquirer : x.new ≡ Cancelled → (l : Transition) → Last f Itl t l → l.new ≡ Cancelled → (p : Transition) → Last f (Registry k.acquirer) t p → (st : Status) → p.new ≡ st → Cause k.acquirer (f (Registry k.acquirer)) t st → IsEnd st
      cancelled_acquirer own l log c p there Accepted e got = absurd (cancels own (cancel_sent x k s l log c p there e) p there e)
      cancelled_acquirer own l log c p there Rejected e h = tt
      cancelled_acquirer own l log c p there Cancelled e h = tt
      cancelled_acquirer own l log c p there Completed e h = tt
      cancelled_acquirer own l log c p there Terminated e h = tt
      cancelled_acquirer own l log c p there Proposed e h = absurd h
      cancelled_acquirer own l log c p there Checked e h = absurd h

      at : (st : Status) → x.new ≡ st → IsEnd st → IsOpen f t → ⊥
      at Completed e h =
          let p = completes e in
          let heard = subst (Cause k.acquirer (f (Registry k.acquirer)) t) p.2 (told scheme k.acquirer (f (Registry k.acquirer)) (causal.made (Registry k.acquirer)) t p.0 p.1 s.other) in
          let l = log_said scheme f causal refl (Registry k.acquirer) t Completed heard in
          let ended_there : l.0.new ≡ Completed = elim l.2 [
            | inl e ↦ e
            | inr e ↦ e.1
          ] in
          ended_so l.0 l.1 (subst IsEnd (sym ended_there) tt) (only f t (Registry k.acquirer) p.0 p.1 (subst IsEnd (sym p.2) tt))
      at Rejected e h = let l = told_end scheme f causal t x s.is Rejected e (λ z. cc (z)) refl (λ z. cc (z)) in ended_so l.0 l.1 (subst IsEnd (sym l.2) tt) (λ p there. ended_acquirer scheme f causal t x l.0 p k s l.1 (inl l.2) there)
      at Terminated e h = let l = told_end scheme f causal t x s.is Terminated e (λ z. cc (z)) refl (λ z. cc (z)) in ended_so l.0 l.1 (subst IsEnd (sym l.2) tt) (λ p there. ended_acquirer scheme f causal t x l.0 p k s l.1 (inr l.2) there)
      at Cancelled e h =
          let l = told_end scheme f causal t x s.is Cancelled e (λ z. cc (z)) refl (λ z. cc (z)) in
          ended_so l.0 l.1 (subst IsEnd (sym l.2) tt) (λ p there. cancelled_acquirer e l.0 l.1 l.2 p there p.new refl (told scheme k.acquirer (f (Registry k.acquirer)) (causal.made (Registry k.acquirer)) t p there s.other))
      at Proposed e h = absurd h
      at Checked e h = absurd h
      at Accepted e h = absurd h
