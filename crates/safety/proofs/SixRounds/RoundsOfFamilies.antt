-- Six rounds of families of histories: from each to the next, sent messages stay sent, ends stay, and what was sent is
-- settled, so that each round takes the transfer one step on.
use Rattle.units.specs.declared.code.Node.{Node}
use Rattle.std.proofs.Common.{◌≡◌, List, Option, Some, None, ◌⊎◌, inl, inr, refl, sym, ap, subst, ◌∙◌}
use Rattle.units.specs.declared.code.Node.TheVariants.{Itl, Registry}
use Rattle.status.specs.Content.{Content}
use Rattle.status.specs.declared.id.TransactionId.{TransactionId}
use Rattle.status.specs.declared.status.Status.{Status}
use Rattle.status.specs.declared.status.Status.TheVariants.{Proposed, Checked, Accepted, Rejected, Terminated, Cancelled, Completed}
use Rattle.scheme.specs.declared.registries.Scheme.{Scheme}
use Rattle.protocol.specs.Claims.{IsEnd}
use Rattle.protocol.specs.Effects.{notifies, proposes}
use Rattle.protocol.specs.History.{Entry, Transition, newest, sends, transitions_of}
use Rattle.safety.proofs.AgreementOfNodes.CausalHistories.{Causal}
use Rattle.safety.proofs.OneRegistry.TransactionEnds.{offered as offered_here}
use Rattle.units.proofs.Lists.Membership.{In}
use Rattle.units.proofs.Lists.OneValue.{one_some}
use Rattle.safety.proofs.OneTransfer.MessageRows.{Last, acquirer_bares}
use Rattle.safety.proofs.WorldLemmas.NodesWithStation.{Unplaced}
use Rattle.safety.proofs.SixRounds.SettledMessages.{Settled, not_settled, Past, PassedOn, Replied, Answered, ToldAcquirer, first_step, second_step, third_step, fourth_step, fifth_step, sixth_step}
use Rattle.wire.specs.declared.message.Message.{Message}
use Rattle.safety.proofs.OneRegistry.RegistryHearings.{Cause, told}
use Rattle.safety.proofs.OneTransfer.StagesAtNodes.{Stage, told_by, own_tells, stage}
use Rattle.safety.proofs.SixRounds.SettledTransfers.{acquirer_cancelled}
use Rattle.wire.specs.declared.message.ProposalStatus.TheVariants as proposal
use Rattle.wire.specs.declared.notified.NotifiedStatus.TheVariants as notified

-- what holds of one family of histories holds of the other, which is later
pub record Later (f g : Node → List Entry) : Type 0 where
  pub sent : (n : Node) (m : Message) → In m (sends (f n)) → In m (sends (g n))
  pub ended : (n : Node) (u : TransactionId) (x : Transition) → IsEnd x.new → newest (transitions_of (f n)) u ≡ Some x → newest (transitions_of (g n)) u ≡ Some x

pub record Family (scheme : Scheme) : Type 0 where
  pub all : Node → List Entry
  pub causal : Causal scheme all
  pub unplaced : Unplaced scheme all

pub record Round (scheme : Scheme) (a b : Family scheme) : Type 0 where
  pub later : Later a.all b.all
  pub settled : (n : Node) (m : Message) → In m (sends (a.all n)) → Settled scheme b.all m

module _ (scheme : Scheme) (t : TransactionId) (k : Content) where
  abbrev pub Begun : Family scheme → Type 0
  Begun a = In (proposes (Registry t.code) Itl t proposal.Proposed k) (sends (a.all (Registry t.code)))

  pub staged : (a : Family scheme) → Begun a → (x : Transition) × Stage scheme a.all t x k
  staged a begun =
      let o = offered_here scheme t.code (a.all (Registry t.code)) (a.causal.made (Registry t.code)) (record { from = Registry t.code; to = Itl; id = t; status = proposal.Proposed; content = k }) begun in
      let s = stage scheme a.all a.causal a.unplaced t o.0 o.1 in
      (o.0, subst (λ z. Stage scheme a.all t o.0 z) (one_some s.0 k (sym s.1.content ∙ o.2)) s.1)

  -- the initiator stands Completed
  abbrev pub Gone : Family scheme → Type 0
  Gone a = (x : Transition) × Last a.all (Registry t.code) t x × (x.new ≡ Completed)

  abbrev pub Over : Family scheme → Type 0
  Over a = Answered scheme a.all t k ⊎ Gone a

  pub over : (a : Family scheme) (x : Transition) (s : Stage scheme a.all t x k) → Past scheme a.all a.causal a.unplaced t x k s → Over a
  over a x s (inl y) = inl y
  over a x s (inr y) = inr (x, s.is, y)

  over_later : (a b : Family scheme) → Round scheme a b → Over a → Over b
  over_later a b r (inl y) = inl (record { status = y.status; which = y.which; said = y.said; says = y.says; sent = r.later.sent Itl _ y.sent })
  over_later a b r (inr y) = inr (y.0, r.later.ended (Registry t.code) t y.0 (subst IsEnd (sym y.2) tt) y.1, y.2)

  -- the first three rounds
  pub one : (a b : Family scheme) → Round scheme a b → Begun a → PassedOn scheme b.all t k ⊎ Over b
  one a b r begun =
      let s = staged b (r.later.sent (Registry t.code) _ begun) in
      elim (first_step scheme b.all b.causal b.unplaced t s.0 k s.1 (r.settled (Registry t.code) _ begun)) [
        | inl o ↦ inl o
        | inr p ↦ inr (over b s.0 s.1 p)
      ]

  pub two : (a b : Family scheme) → Round scheme a b → Begun a → PassedOn scheme a.all t k ⊎ Over a → (PassedOn scheme b.all t k × Replied scheme b.all t k) ⊎ Over b
  two a b r begun (inr y) = inr (over_later a b r y)
  two a b r begun (inl o) =
      let s = staged b (r.later.sent (Registry t.code) _ begun) in
      elim (second_step scheme b.all b.causal b.unplaced t s.0 k s.1 (r.later.sent Itl _ o) (r.settled Itl _ o)) [
        | inl q ↦ inl (r.later.sent Itl _ o, q)
        | inr p ↦ inr (over b s.0 s.1 p)
      ]

  pub three : (a b : Family scheme) → Round scheme a b → Begun a → (PassedOn scheme a.all t k × Replied scheme a.all t k) ⊎ Over a → Over b
  three a b r begun (inr y) = over_later a b r y
  three a b r begun (inl q) =
      let s = staged b (r.later.sent (Registry t.code) _ begun) in
      over b s.0 s.1 (third_step scheme b.all b.causal b.unplaced t s.0 k s.1 (r.later.sent Itl _ q.0)
      (record { status = q.1.status; which = q.1.which; said = q.1.said; says = q.1.says; sent = r.later.sent (Registry k.acquirer) _ q.1.sent }) (r.settled (Registry k.acquirer) _ q.1.sent))

  -- the fourth: the initiator has ended
  pub four : (a b : Family scheme) → Round scheme a b → Begun a → Over a → (x : Transition) × Stage scheme b.all t x k × IsEnd x.new
  four a b r begun y =
      let s = staged b (r.later.sent (Registry t.code) _ begun) in (
        s.0,
        s.1,
        elim y [
          | inl y ↦ fourth_step scheme b.all b.causal b.unplaced t s.0 k s.1 (record { status = y.status; which = y.which; said = y.said; says = y.says; sent = r.later.sent Itl _ y.sent }) (r.settled Itl _ y.sent)
          | inr y ↦
              let same : s.0 ≡ y.0 = one_some s.0 y.0 (sym s.1.is ∙ r.later.ended (Registry t.code) t y.0 (subst IsEnd (sym y.2) tt) y.1) in
              subst IsEnd (sym (ap (λ (z : Transition). z.new) same ∙ y.2)) tt
        ],
      )

  pub stage_later : (a b : Family scheme) → Later a.all b.all → (x : Transition) → Stage scheme a.all t x k → IsEnd x.new → Stage scheme b.all t x k
  stage_later a b later x s end = record { is = later.ended (Registry t.code) t x end s.is; content = s.content; initiator = s.initiator; acquirer = s.acquirer; other = s.other }

  -- the fifth: what is completed was told on
  pub five : (a b : Family scheme) → Round scheme a b → (x : Transition) → Stage scheme a.all t x k → x.new ≡ Completed → ToldAcquirer scheme b.all t k
  five a b r x s done =
      let next = stage_later a b r.later x s (subst IsEnd (sym done) tt) in
      let says = own_tells scheme a.all a.causal t x k s Completed done in
      let sent = told_by scheme a.all a.causal t x k s (Registry t.code) x Itl says.0 s.is says.2 in
      fifth_step scheme b.all b.causal b.unplaced t x k next done says.0 says.1 (r.later.sent (Registry t.code) _ sent) (r.settled (Registry t.code) _ sent)

  -- the sixth: the acquirer has completed
  pub six : (a b : Family scheme) → Round scheme a b → (x : Transition) → Stage scheme b.all t x k → x.new ≡ Completed → ToldAcquirer scheme a.all t k → (p : Transition) × Last b.all (Registry k.acquirer) t p × (p.new ≡ Completed)
  six a b r x s done told =
      sixth_step scheme b.all b.causal b.unplaced t x k s done (record { said = told.said; says = told.says; sent = r.later.sent Itl _ told.sent }) (r.settled Itl _ told.sent)

  -- a cancellation that was sent with a content is settled at the acquirer in the next round, which has ended there for good
  pub cancelled_there : (a b g : Family scheme) → Round scheme a b → Later b.all g.all → (x : Transition) → Stage scheme b.all t x k → In (notifies Itl (Registry k.acquirer) t notified.Cancelled) (sends (a.all Itl))
      → (p : Transition) → Last g.all (Registry k.acquirer) t p → p.new ≡ Accepted → ⊥
  cancelled_there a b g r later x s sent p there accepted = by (newest (transitions_of (b.all (Registry k.acquirer))) t) refl
    where
      here : In (notifies Itl (Registry k.acquirer) t notified.Cancelled) (sends (b.all Itl))
      here = r.later.sent Itl _ sent

      settled : Settled scheme b.all (notifies Itl (Registry k.acquirer) t notified.Cancelled)
      settled = r.settled Itl _ sent

      stays : (q : Transition) → Last b.all (Registry k.acquirer) t q → IsEnd q.new → ⊥
      stays q at end =
          let same : q ≡ p = one_some q p (sym (later.ended (Registry k.acquirer) t q end at) ∙ there) in
          subst IsEnd (ap (λ (z : Transition). z.new) same ∙ accepted) end

      at_status : (q : Transition) → Last b.all (Registry k.acquirer) t q → (st : Status) → q.new ≡ st → Cause k.acquirer (b.all (Registry k.acquirer)) t st → ⊥
      at_status q at Accepted e h = acquirer_cancelled scheme b.all b.causal b.unplaced t x k s here settled q at e
      at_status q at Rejected e h = stays q at (subst IsEnd (sym e) tt)
      at_status q at Completed e h = stays q at (subst IsEnd (sym e) tt)
      at_status q at Cancelled e h = stays q at (subst IsEnd (sym e) tt)
      at_status q at Terminated e h = h
      at_status q at Proposed e h = h
      at_status q at Checked e h = h

      by : (o : Option Transition) → newest (transitions_of (b.all (Registry k.acquirer))) t ≡ o → ⊥
      by None none =
          let v = acquirer_bares scheme b.all b.causal b.unplaced settled.0 k.acquirer t here none s.other in
          not_settled scheme (b.all (Registry k.acquirer)) _ _ v.1 settled.1
      by (Some q) at = at_status q at q.new refl (told scheme k.acquirer (b.all (Registry k.acquirer)) (b.causal.made (Registry k.acquirer)) t q at s.other)
