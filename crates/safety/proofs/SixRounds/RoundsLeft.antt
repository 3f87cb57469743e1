-- How many rounds are left, by the statuses at the three nodes: each stage of a transfer is closed by those after it.
use Rattle.units.specs.declared.code.Node.{Node}
use Rattle.std.proofs.Common.{ℕ, ◌≡◌, List, Option, Some, None, ◌⊎◌, inl, inr, refl, sym, ap, subst, ◌∙◌, zero, suc}
use Rattle.units.specs.declared.code.Node.TheVariants.{Itl, Registry}
use Rattle.status.specs.Content.{Content}
use Rattle.status.specs.declared.id.TransactionId.{TransactionId}
use Rattle.status.specs.declared.status.Status.{Status}
use Rattle.status.specs.declared.status.Status.TheVariants.{Proposed, Checked, Accepted, Rejected, Terminated, Cancelled, Completed}
use Rattle.scheme.specs.declared.registries.Scheme.{Scheme}
use Rattle.protocol.specs.Claims.{IsEnd}
use Rattle.protocol.specs.History.{Entry, Transition, newest, transitions_of, stands}
use Rattle.protocol.specs.WayOut.{IsOpen}
use Rattle.safety.proofs.AgreementOfNodes.CausalHistories.{completed_agrees}
use Rattle.safety.proofs.AgreementOfNodes.CompletionsAgree.{stands_so}
use Rattle.units.proofs.Lists.OneValue.{one_some}
use Rattle.safety.proofs.OneLog.LogHearings.{IsAgreed}
use Rattle.safety.proofs.OneTransfer.MessageRows.{Last}
use Rattle.safety.proofs.SixRounds.SettledMessages.{PassedOn, Replied, ToldAcquirer, log_answered, log_completed, passed_on, replied_or_past, taken_there, told_acquirer}
use Rattle.safety.proofs.OneRegistry.RegistryHearings.{Cause, told}
use Rattle.safety.proofs.OneTransfer.StagesAtNodes.{Stage, log_tells_acquirer, told_end, own_offer, log_tells}
use Rattle.safety.proofs.SixRounds.SettledTransfers.{closed_here, cancel_content}
use Rattle.safety.proofs.SixRounds.RoundsOfFamilies.{Begun, Family, Later, Over, Round, cancelled_there, five, four, one, over, six, stage_later, three, two}
use Rattle.safety.specs.RoundsLeft.{rounds_left}
use Rattle.safety.proofs.MovesAndHistories.NewestTransitions.{newest_stands}
use Rattle.safety.proofs.OneRegistry.InitiatorStatuses.{IsOwnStatus}

pub later_on : (f g h : Node → List Entry) → Later f g → Later g h → Later f h
later_on f g h a b = record { sent = λ n m i. b.sent n m (a.sent n m i); ended = λ n u x end i. b.ended n u x end (a.ended n u x end i) }

-- that many rounds lead from the first family to one that the second continues
abbrev pub RoundsTo : (scheme : Scheme) → ℕ → Family scheme → Family scheme → Type 0
RoundsTo scheme zero a g = Later a.all g.all
RoundsTo scheme (suc count) a g = (b : Family scheme) × Round scheme a b × RoundsTo scheme count b g

agreed_end : (s : Status) → IsAgreed s → IsEnd s → (s ≡ Completed → ⊥) → ⊥
agreed_end Completed a e other = other refl
agreed_end Accepted a e other = e
agreed_end Proposed a e other = e
agreed_end Checked a e other = e
agreed_end Rejected a e other = a
agreed_end Terminated a e other = a
agreed_end Cancelled a e other = a

module _ (scheme : Scheme) (t : TransactionId) (k : Content) where
  not_so : (x : Transition) (st other : Status) → x.new ≡ st → (st ≡ other → ⊥) → {C : Type 0} → x.new ≡ other → C
  not_so x st other e differ d = absurd (differ (sym e ∙ d))

  -- what the log has cancelled in the first family, the acquirer has not accepted after the second
  cancels_at : (a b g : Family scheme) → Round scheme a b → Later b.all g.all → (xa xb xg : Transition) → Stage scheme a.all t xa k → Stage scheme b.all t xb k → Stage scheme g.all t xg k
      → (l : Transition) → Last a.all Itl t l → l.new ≡ Cancelled → (p : Transition) → Last g.all (Registry k.acquirer) t p → p.new ≡ Accepted → ⊥
  cancels_at a b g r later xa xb xg sa sb sg l log c p there accepted =
      let end : IsEnd l.new = subst IsEnd (sym c) tt in
      let log_g : Last g.all Itl t l = later.ended Itl t l end (r.later.ended Itl t l end log) in
      let content = cancel_content scheme g.all g.causal g.unplaced t xg k sg l log_g p there accepted in
      cancelled_there scheme t k a b g r later xb sb (log_tells_acquirer scheme a.all a.causal t xa k sa l log c content) p there accepted

  closed_from : (a g : Family scheme) → Later a.all g.all → (x : Transition) → Stage scheme a.all t x k → IsEnd x.new
      → (x.new ≡ Completed → (p : Transition) × Last g.all (Registry k.acquirer) t p × (p.new ≡ Completed)) → (x.new ≡ Cancelled → (p : Transition) → Last g.all (Registry k.acquirer) t p → p.new ≡ Accepted → ⊥) → IsOpen g.all t → ⊥
  closed_from a g later x s end done told = closed_here scheme g.all g.causal g.unplaced t x k (stage_later scheme t k a g later x s end) end done (λ own sent p there e. told own p there e)

  stays_completed : (a g : Family scheme) → Later a.all g.all → (p : Transition) × Last a.all (Registry k.acquirer) t p × (p.new ≡ Completed) → (p : Transition) × Last g.all (Registry k.acquirer) t p × (p.new ≡ Completed)
  stays_completed a g later p = (p.0, later.ended (Registry k.acquirer) t p.0 (subst IsEnd (sym p.2) tt) p.1, p.2)

  -- an end stays at the acquirer
  not_accepted : (a g : Family scheme) → Later a.all g.all → (q : Transition) → Last a.all (Registry k.acquirer) t q → IsEnd q.new → (p : Transition) → Last g.all (Registry k.acquirer) t p → p.new ≡ Accepted → ⊥
  not_accepted a g later q at end p there e =
      subst IsEnd (ap (λ (z : Transition). z.new) (one_some q p (sym (later.ended (Registry k.acquirer) t q end at) ∙ there)) ∙ e) end

  told_cancelled : (a : Family scheme) (x : Transition) → Stage scheme a.all t x k → x.new ≡ Cancelled → (l : Transition) × Last a.all Itl t l × (l.new ≡ Cancelled)
  told_cancelled a x s own = told_end scheme a.all a.causal t x s.is Cancelled own (λ d. cc (d)) refl (λ d. cc (d))

  -- ---- the initiator has ended

  completed_now : (a g : Family scheme) → RoundsTo scheme 0 a g → (x : Transition) → Stage scheme a.all t x k → x.new ≡ Completed → (p : Transition) → Last a.all (Registry k.acquirer) t p → p.new ≡ Completed → IsOpen g.all t → ⊥
  completed_now a g h x s done p there e =
      closed_from a g h x s (subst IsEnd (sym done) tt) (λ d. stays_completed a g h (p, there, e)) (not_so x Completed Cancelled done (λ d. cc (d)))

  completed_told : (a g : Family scheme) → RoundsTo scheme 1 a g → (x : Transition) → Stage scheme a.all t x k → x.new ≡ Completed → ToldAcquirer scheme a.all t k → IsOpen g.all t → ⊥
  completed_told a g h x s done told =
      let b = h.0 in
      let end = subst IsEnd (sym done) tt in
      let sb = stage_later scheme t k a b h.1.later x s end in
      closed_from b g h.2 x sb end (λ d. stays_completed b g h.2 (six scheme t k a b h.1 x sb done told)) (not_so x Completed Cancelled done (λ d. cc (d)))

  completed_first : (a g : Family scheme) → RoundsTo scheme 2 a g → (x : Transition) → Stage scheme a.all t x k → x.new ≡ Completed → IsOpen g.all t → ⊥
  completed_first a g h x s done =
      let b = h.0 in
      completed_told b g h.2 x (stage_later scheme t k a b h.1.later x s (subst IsEnd (sym done) tt)) done (five scheme t k a b h.1 x s done)

  cancelled_now : (a g : Family scheme) → RoundsTo scheme 0 a g → (x : Transition) → Stage scheme a.all t x k → x.new ≡ Cancelled → (q : Transition) → Last a.all (Registry k.acquirer) t q → IsEnd q.new → IsOpen g.all t → ⊥
  cancelled_now a g h x s own q at end =
      closed_from a g h x s (subst IsEnd (sym own) tt) (not_so x Cancelled Completed own (λ d. cc (d))) (λ c p there e. not_accepted a g h q at end p there e)

  cancelled_first : (a g : Family scheme) → RoundsTo scheme 1 a g → (x : Transition) → Stage scheme a.all t x k → x.new ≡ Cancelled → IsOpen g.all t → ⊥
  cancelled_first a g h x s own =
      let b = h.0 in
      let end = subst IsEnd (sym own) tt in
      let l = told_cancelled a x s own in
      let all = later_on a.all b.all g.all h.1.later h.2 in
      closed_from a g all x s end (not_so x Cancelled Completed own (λ d. cc (d)))
      (λ c p there e. cancels_at a b g h.1 h.2 x x x s (stage_later scheme t k a b h.1.later x s end) (stage_later scheme t k a g all x s end) l.0 l.1 l.2 p there e)

  refused_now : (a g : Family scheme) → RoundsTo scheme 0 a g → (x : Transition) → Stage scheme a.all t x k → IsEnd x.new → (x.new ≡ Completed → ⊥) → (x.new ≡ Cancelled → ⊥) → IsOpen g.all t → ⊥
  refused_now a g h x s end completed cancelled = closed_from a g h x s end (λ d. absurd (completed d)) (λ d. absurd (cancelled d))

  -- ---- the log has answered

  all_of : (b g : Family scheme) → RoundsTo scheme 2 b g → Later b.all g.all
  all_of b g h = later_on b.all h.0.all g.all h.1.later (later_on h.0.all h.2.0.all g.all h.2.1.later h.2.2)

  by_answer : (b g : Family scheme) → RoundsTo scheme 2 b g → (x : Transition) → Stage scheme b.all t x k → IsEnd x.new → (st : Status) → x.new ≡ st → IsOpen g.all t → ⊥
  by_answer b g h x s end Completed e = completed_first b g h x s e
  by_answer b g h x s end Cancelled e = cancelled_first b g (h.0, h.1, later_on h.0.all h.2.0.all g.all h.2.1.later h.2.2) x s e
  by_answer b g h x s end Rejected e = refused_now b g (all_of b g h) x s end (not_so x Rejected Completed e (λ d. cc (d))) (not_so x Rejected Cancelled e (λ d. cc (d)))
  by_answer b g h x s end Terminated e = refused_now b g (all_of b g h) x s end (not_so x Terminated Completed e (λ d. cc (d))) (not_so x Terminated Cancelled e (λ d. cc (d)))
  by_answer b g h x s end Proposed e = absurd (subst IsEnd e end)
  by_answer b g h x s end Checked e = absurd (subst IsEnd e end)
  by_answer b g h x s end Accepted e = absurd (subst IsEnd e end)

  -- three rounds where the log has answered, four where the acquirer has replied, five where the log has passed it on
  pub three_left : (a g : Family scheme) → RoundsTo scheme 3 a g → Begun scheme t k a → Over scheme t k a → IsOpen g.all t → ⊥
  three_left a g h begun over =
      let e = four scheme t k a h.0 h.1 begun over in
      by_answer h.0 g h.2 e.0 e.1 e.2 e.0.new refl

  begun_later : (a b : Family scheme) → Round scheme a b → Begun scheme t k a → Begun scheme t k b
  begun_later a b r begun = r.later.sent (Registry t.code) _ begun

  pub four_left : (a g : Family scheme) → RoundsTo scheme 4 a g → Begun scheme t k a → (PassedOn scheme a.all t k × Replied scheme a.all t k) ⊎ Over scheme t k a → IsOpen g.all t → ⊥
  four_left a g h begun y = three_left h.0 g h.2 (begun_later a h.0 h.1 begun) (three scheme t k a h.0 h.1 begun y)

  pub five_left : (a g : Family scheme) → RoundsTo scheme 5 a g → Begun scheme t k a → PassedOn scheme a.all t k ⊎ Over scheme t k a → IsOpen g.all t → ⊥
  five_left a g h begun y = four_left h.0 g h.2 (begun_later a h.0 h.1 begun) (two scheme t k a h.0 h.1 begun y)

  pub six_left : (a g : Family scheme) → RoundsTo scheme 6 a g → Begun scheme t k a → IsOpen g.all t → ⊥
  six_left a g h begun = five_left h.0 g h.2 (begun_later a h.0 h.1 begun) (one scheme t k a h.0 h.1 begun)

  -- one round where the log has ended it without a completion
  one_left : (a g : Family scheme) → RoundsTo scheme 1 a g → (x : Transition) → Stage scheme a.all t x k → Begun scheme t k a → Over scheme t k a → (l : Transition) → Last a.all Itl t l → IsEnd l.new → (l.new ≡ Completed → ⊥) → IsOpen g.all t → ⊥
  one_left a g h xa sa begun over l log end other =
      let b = h.0 in
      let e = four scheme t k a b h.1 begun over in
      let x = e.0 in
      let sb = e.1 in
      let log_b : Last b.all Itl t l = h.1.later.ended Itl t l end log in
      closed_from b g h.2 x sb e.2
      (λ done.
      let agrees = completed_agrees scheme b.all b.causal refl (Registry t.code) t (stands_so (transitions_of (b.all (Registry t.code))) t x Completed sb.is done) in
      absurd (agreed_end l.new (subst (λ (z : Transition). IsAgreed z.new) (one_some agrees.0 l (sym agrees.1 ∙ log_b)) agrees.2) end other))
      (λ own p there accepted.
      let m = told_cancelled b x sb own in
      let c : l.new ≡ Cancelled = ap (λ (z : Transition). z.new) (one_some l m.0 (sym log_b ∙ m.1)) ∙ m.2 in
      cancels_at a b g h.1 h.2 xa x x sa sb (stage_later scheme t k b g h.2 x sb e.2) l log c p there accepted)

  -- two where the acquirer has rejected it
  two_left : (a g : Family scheme) → RoundsTo scheme 2 a g → (x : Transition) → Stage scheme a.all t x k → Begun scheme t k a → PassedOn scheme a.all t k → (p : Transition) → Last a.all (Registry k.acquirer) t p → p.new ≡ Rejected → IsOpen g.all t → ⊥
  two_left a g h xa sa begun passed p there rejected =
      let b = h.0 in
      let c = h.2.0 in
      let end : IsEnd p.new = subst IsEnd (sym rejected) tt in
      let y : (PassedOn scheme a.all t k × Replied scheme a.all t k) ⊎ Over scheme t k a =
      elim (replied_or_past scheme a.all a.causal a.unplaced t xa k sa p there) [
        | inl q ↦ inl (passed, q)
        | inr z ↦ inr (over scheme t k a xa sa z)
      ] in
      let e = four scheme t k b c h.2.1 (begun_later a b h.1 begun) (three scheme t k a b h.1 begun y) in
      let p_c : Last c.all (Registry k.acquirer) t p = h.2.1.later.ended (Registry k.acquirer) t p end (h.1.later.ended (Registry k.acquirer) t p end there) in
      closed_from c g h.2.2 e.0 e.1 e.2
      (λ done.
      let q = taken_there scheme c.all c.causal c.unplaced t e.0 k e.1 done in
      let same : q.0.new ≡ Rejected = ap (λ (z : Transition). z.new) (one_some q.0 p (sym q.1 ∙ p_c)) ∙ rejected in
      absurd (elim q.2 [
        | inl d ↦ let z : Accepted ≡ Rejected = sym d ∙ same in cc (z)
        | inr d ↦ let z : Completed ≡ Rejected = sym d ∙ same in cc (z)
      ]))
      (λ own q at accepted. not_accepted c g h.2.2 p p_c end q at accepted)

  -- ---- by the statuses at the three nodes

  module _ (a g : Family scheme) (x : Transition) (s : Stage scheme a.all t x k) where
    begins : Begun scheme t k a
    begins = own_offer scheme a.all a.causal t x k s

    here : (n : Node) (st : Status) → stands (transitions_of (a.all n)) t ≡ Some st → (y : Transition) × Last a.all n t y × (y.new ≡ st)
    here n st e = newest_stands (transitions_of (a.all n)) t st (newest (transitions_of (a.all n)) t) refl e

    checked : (st : Status) (l : Transition) → Last a.all Itl t l → l.new ≡ Checked → stands (transitions_of (a.all (Registry k.acquirer))) t ≡ Some st → RoundsTo scheme 4 a g → IsOpen g.all t → ⊥
    checked st l log e at h =
        let p = here (Registry k.acquirer) st at in
        let passed = passed_on scheme a.all a.causal a.unplaced t x k s l log e in
        four_left a g h begins
        (elim (replied_or_past scheme a.all a.causal a.unplaced t x k s p.0 p.1) [
          | inl q ↦ inl (passed, q)
          | inr z ↦ inr (over scheme t k a x s z)
        ])

    past : (l : Transition) → Last a.all Itl t l → (st : Status) → l.new ≡ st → (st ≡ Checked → ⊥) → Over scheme t k a
    past l log st e other = over scheme t k a x s (log_answered scheme a.all a.causal a.unplaced t x k s l log st e other)

    from_log : (st : Status) → x.new ≡ Proposed → stands (transitions_of (a.all Itl)) t ≡ Some st → IsEnd st → (st ≡ Checked → ⊥) → (st ≡ Completed → ⊥) → RoundsTo scheme 1 a g → IsOpen g.all t → ⊥
    from_log st own e end other done h =
        let l = here Itl st e in
        one_left a g h x s begins (past l.0 l.1 st l.2 other) l.0 l.1 (subst IsEnd (sym l.2) end) (λ d. done (sym l.2 ∙ d))

    -- the log agrees with a completion
    disagrees : x.new ≡ Completed → (st : Status) → stands (transitions_of (a.all Itl)) t ≡ Some st → (IsAgreed st → ⊥) → {C : Type 0} → C
    disagrees own st log other =
        let agrees = completed_agrees scheme a.all a.causal refl (Registry t.code) t (stands_so (transitions_of (a.all (Registry t.code))) t x Completed s.is own) in
        let l = here Itl st log in
        absurd (other (subst IsAgreed (ap (λ (z : Transition). z.new) (one_some agrees.0 l.0 (sym agrees.1 ∙ l.1)) ∙ l.2) agrees.2))

    pub by_statuses : (si : Status) → x.new ≡ si → IsOwnStatus si → (ol : Option Status) → stands (transitions_of (a.all Itl)) t ≡ ol → (oa : Option Status) → stands (transitions_of (a.all (Registry k.acquirer))) t ≡ oa
        → RoundsTo scheme (rounds_left (Some si) ol oa) a g → IsOpen g.all t → ⊥
    by_statuses Proposed own is None log oa at h = six_left a g h begins
    by_statuses Proposed own is (Some Checked) log None at h = let l = here Itl Checked log in five_left a g h begins (inl (passed_on scheme a.all a.causal a.unplaced t x k s l.0 l.1 l.2))
    by_statuses Proposed own is (Some Checked) log (Some Rejected) at h =
        let l = here Itl Checked log in let p = here (Registry k.acquirer) Rejected at in two_left a g h x s begins (passed_on scheme a.all a.causal a.unplaced t x k s l.0 l.1 l.2) p.0 p.1 p.2
    by_statuses Proposed own is (Some Checked) log (Some Proposed) at h = let l = here Itl Checked log in checked Proposed l.0 l.1 l.2 at h
    by_statuses Proposed own is (Some Checked) log (Some Checked) at h = let l = here Itl Checked log in checked Checked l.0 l.1 l.2 at h
    by_statuses Proposed own is (Some Checked) log (Some Accepted) at h = let l = here Itl Checked log in checked Accepted l.0 l.1 l.2 at h
    by_statuses Proposed own is (Some Checked) log (Some Terminated) at h = let l = here Itl Checked log in checked Terminated l.0 l.1 l.2 at h
    by_statuses Proposed own is (Some Checked) log (Some Cancelled) at h = let l = here Itl Checked log in checked Cancelled l.0 l.1 l.2 at h
    by_statuses Proposed own is (Some Checked) log (Some Completed) at h = let l = here Itl Checked log in checked Completed l.0 l.1 l.2 at h
    by_statuses Proposed own is (Some Accepted) log oa at h = let l = here Itl Accepted log in three_left a g h begins (past l.0 l.1 Accepted l.2 (λ d. cc (d)))
    by_statuses Proposed own is (Some Rejected) log oa at h = from_log Rejected own log tt (λ d. cc (d)) (λ d. cc (d)) h
    by_statuses Proposed own is (Some Terminated) log oa at h = from_log Terminated own log tt (λ d. cc (d)) (λ d. cc (d)) h
    by_statuses Proposed own is (Some Cancelled) log oa at h = from_log Cancelled own log tt (λ d. cc (d)) (λ d. cc (d)) h
    by_statuses Proposed own is (Some Completed) log oa at h =
        let l = here Itl Completed log in absurd (let y : Proposed ≡ Completed = sym own ∙ log_completed scheme a.all a.causal a.unplaced t x k s l.0 l.1 l.2 in cc (y))
    by_statuses Proposed own is (Some Proposed) log oa at h = let l = here Itl Proposed log in absurd (log_tells scheme a.all a.causal t x k s l.0 l.1 Proposed l.2)
    by_statuses Completed own is (Some Accepted) log oa at h = completed_first a g h x s own
    by_statuses Completed own is (Some Completed) log (Some Completed) at h = let p = here (Registry k.acquirer) Completed at in completed_now a g h x s own p.0 p.1 p.2
    by_statuses Completed own is (Some Completed) log None at h = let l = here Itl Completed log in completed_told a g h x s own (told_acquirer scheme a.all a.causal a.unplaced t x k s l.0 l.1 l.2)
    by_statuses Completed own is (Some Completed) log (Some Proposed) at h = let l = here Itl Completed log in completed_told a g h x s own (told_acquirer scheme a.all a.causal a.unplaced t x k s l.0 l.1 l.2)
    by_statuses Completed own is (Some Completed) log (Some Checked) at h = let l = here Itl Completed log in completed_told a g h x s own (told_acquirer scheme a.all a.causal a.unplaced t x k s l.0 l.1 l.2)
    by_statuses Completed own is (Some Completed) log (Some Accepted) at h = let l = here Itl Completed log in completed_told a g h x s own (told_acquirer scheme a.all a.causal a.unplaced t x k s l.0 l.1 l.2)
    by_statuses Completed own is (Some Completed) log (Some Rejected) at h = let l = here Itl Completed log in completed_told a g h x s own (told_acquirer scheme a.all a.causal a.unplaced t x k s l.0 l.1 l.2)
    by_statuses Completed own is (Some Completed) log (Some Terminated) at h = let l = here Itl Completed log in completed_told a g h x s own (told_acquirer scheme a.all a.causal a.unplaced t x k s l.0 l.1 l.2)
    by_statuses Completed own is (Some Completed) log (Some Cancelled) at h = let l = here Itl Completed log in completed_told a g h x s own (told_acquirer scheme a.all a.causal a.unplaced t x k s l.0 l.1 l.2)
    by_statuses Completed own is None log oa at h =
        let agrees = completed_agrees scheme a.all a.causal refl (Registry t.code) t (stands_so (transitions_of (a.all (Registry t.code))) t x Completed s.is own) in
        let y : ◌≡◌ {A = Option Status} None (Some agrees.0.new) = sym log ∙ stands_so (transitions_of (a.all Itl)) t agrees.0 agrees.0.new agrees.1 refl in
        cc (y)
    by_statuses Completed own is (Some Proposed) log oa at h = disagrees own Proposed log (λ e. e)
    by_statuses Completed own is (Some Checked) log oa at h = disagrees own Checked log (λ e. e)
    by_statuses Completed own is (Some Rejected) log oa at h = disagrees own Rejected log (λ e. e)
    by_statuses Completed own is (Some Terminated) log oa at h = disagrees own Terminated log (λ e. e)
    by_statuses Completed own is (Some Cancelled) log oa at h = disagrees own Cancelled log (λ e. e)
    by_statuses Cancelled own is ol log None at h = cancelled_first a g h x s own
    by_statuses Cancelled own is ol log (Some Accepted) at h = cancelled_first a g h x s own
    by_statuses Cancelled own is ol log (Some Rejected) at h = let p = here (Registry k.acquirer) Rejected at in cancelled_now a g h x s own p.0 p.1 (subst IsEnd (sym p.2) tt)
    by_statuses Cancelled own is ol log (Some Terminated) at h = let p = here (Registry k.acquirer) Terminated at in cancelled_now a g h x s own p.0 p.1 (subst IsEnd (sym p.2) tt)
    by_statuses Cancelled own is ol log (Some Cancelled) at h = let p = here (Registry k.acquirer) Cancelled at in cancelled_now a g h x s own p.0 p.1 (subst IsEnd (sym p.2) tt)
    by_statuses Cancelled own is ol log (Some Completed) at h = let p = here (Registry k.acquirer) Completed at in cancelled_now a g h x s own p.0 p.1 (subst IsEnd (sym p.2) tt)
    by_statuses Cancelled own is ol log (Some Proposed) at h = let p = here (Registry k.acquirer) Proposed at in absurd (subst (Cause k.acquirer (a.all (Registry k.acquirer)) t) p.2 (told scheme k.acquirer (a.all (Registry k.acquirer)) (a.causal.made (Registry k.acquirer)) t p.0 p.1 s.other))
    by_statuses Cancelled own is ol log (Some Checked) at h = let p = here (Registry k.acquirer) Checked at in absurd (subst (Cause k.acquirer (a.all (Registry k.acquirer)) t) p.2 (told scheme k.acquirer (a.all (Registry k.acquirer)) (a.causal.made (Registry k.acquirer)) t p.0 p.1 s.other))
    by_statuses Rejected own is ol log oa at h = refused_now a g h x s (subst IsEnd (sym own) tt) (not_so x Rejected Completed own (λ d. cc (d))) (not_so x Rejected Cancelled own (λ d. cc (d)))
    by_statuses Terminated own is ol log oa at h = refused_now a g h x s (subst IsEnd (sym own) tt) (not_so x Terminated Completed own (λ d. cc (d))) (not_so x Terminated Cancelled own (λ d. cc (d)))
    by_statuses Checked own is ol log oa at h = absurd is
    by_statuses Accepted own is ol log oa at h = absurd is
