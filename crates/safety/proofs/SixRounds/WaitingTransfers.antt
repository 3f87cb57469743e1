-- An open transfer waits: one of its messages was sent and is not settled.
use Rattle.std.proofs.Common.{◌≡◌, ℕ, List, Option, Some, None, ◌⊎◌, inl, inr, refl, sym, ap, subst, ◌∙◌, lit≤}
use Rattle.units.proofs.Lists.Membership.{In}
use Rattle.units.proofs.Lists.Positions.{contains_in}
use Rattle.units.proofs.Lists.OneValue.{one_some}
use Rattle.units.specs.declared.code.Node.{Node}
use Rattle.units.specs.declared.code.Node.TheVariants.{Itl, Registry}
use Rattle.status.specs.Content.{Content}
use Rattle.status.specs.declared.id.TransactionId.{TransactionId}
use Rattle.status.specs.declared.moment.Moment.{Moment}
use Rattle.status.specs.declared.status.Status.{Status}
use Rattle.status.specs.declared.status.Status.TheVariants.{Proposed, Checked, Accepted, Rejected, Terminated, Cancelled, Completed}
use Rattle.wire.specs.declared.input.Input.TheVariants.{Received}
use Rattle.wire.specs.declared.message.Message.{Message}
use Rattle.wire.specs.declared.notified.NotifiedStatus.TheVariants as notified
use Rattle.scheme.specs.declared.registries.Scheme.{Scheme}
use Rattle.protocol.specs.Claims.{IsEnd, committed_of}
use Rattle.protocol.specs.Deciding.{Verdict, IsRecorded, IsRefused, IsRepeat, IsLate}
use Rattle.protocol.specs.Effects.{notifies}
use Rattle.protocol.specs.History.{Entry, Transition, newest, sends, transitions_of}
use Rattle.safety.specs.Rounds.{ChangesNothing, OpenOnesWait}
use Rattle.protocol.specs.Verdict.{verdict}
use Rattle.protocol.specs.WayOut.{IsOpen}
use Rattle.protocol.specs.World.{opening, run}
use Rattle.protocol.specs.declared.event.WorldEvent.{WorldEvent}
use Rattle.safety.proofs.AgreementOfNodes.CausalHistories.{Causal}
use Rattle.safety.proofs.OneTransfer.MessageRows.{Last}
use Rattle.safety.proofs.OneTransfer.StagesAtNodes.{Stage, own_offer, own_tells, stage, told_by, told_end, unknown}
use Rattle.safety.proofs.SixRounds.ReceivedMessages.{settled_past, when_kept}
use Rattle.safety.proofs.SixRounds.SettledMessages.{Past, Settled, fifth_step, first_step, fourth_step, second_step, sixth_step, third_step}
use Rattle.safety.proofs.SixRounds.SettledTransfers.{acquirer_cancelled, cancel_sent, closed_here}
use Rattle.safety.proofs.WorldLemmas.NodesWithStation.{Unplaced, committed_unplaced, opening_placed, run_placed}
use Rattle.safety.proofs.WorldLemmas.ReachedWorlds.{reached_sound}
use Rattle.safety.proofs.WorldLemmas.SoundWorlds.{committed_causal}

-- a copy may come at any moment
some_moment : Moment
some_moment = record { seconds = 0; in_range = lit≤ tt }

recorded_changes : (xs : List Transition) (v : Verdict) → v ≡ IsRecorded xs → ChangesNothing v → ⊥
recorded_changes xs v e (inl h) = let y : IsRecorded xs ≡ IsRepeat = sym e ∙ h in cc (y)
recorded_changes xs v e (inr h) = let y : IsRecorded xs ≡ IsLate = sym e ∙ h in cc (y)

refused_changes : (code : ℕ) (v : Verdict) → v ≡ IsRefused code → ChangesNothing v → ⊥
refused_changes code v e (inl h) = let y : IsRefused code ≡ IsRepeat = sym e ∙ h in cc (y)
refused_changes code v e (inr h) = let y : IsRefused code ≡ IsLate = sym e ∙ h in cc (y)

module _ (scheme : Scheme) (f : Node → List Entry) (causal : Causal scheme f) (unplaced : Unplaced scheme f) where
  -- a message is settled at one moment as at another
  at_some_moment : (m : Message) → In m (sends (f m.from)) → Settled scheme f m → ChangesNothing (verdict scheme m.to (f m.to) (Received m some_moment))
  at_some_moment m sent s = settled_past scheme f causal unplaced m sent some_moment (when_kept scheme f causal unplaced m sent s.0 s.1)

  settled_or_not : (m : Message) → In m (sends (f m.from)) → Settled scheme f m ⊎ (Settled scheme f m → ⊥)
  settled_or_not m sent = go (verdict scheme m.to (f m.to) (Received m some_moment)) refl
    where
      go : (v : Verdict) → verdict scheme m.to (f m.to) (Received m some_moment) ≡ v → Settled scheme f m ⊎ (Settled scheme f m → ⊥)
      go IsRepeat e = inl (some_moment, inl e)
      go IsLate e = inl (some_moment, inr e)
      go (IsRecorded xs) e = inr (λ s. recorded_changes xs (verdict scheme m.to (f m.to) (Received m some_moment)) e (at_some_moment m sent s))
      go (IsRefused code) e = inr (λ s. refused_changes code (verdict scheme m.to (f m.to) (Received m some_moment)) e (at_some_moment m sent s))

  module _ (t : TransactionId) where
    abbrev Waits : Type 0
    Waits = (n : Node) × (m : Message) × In m (sends (f n)) × (m.id ≡ t) × (Settled scheme f m → ⊥)

    -- either the message is settled, and this follows, or it is waited for
    unless_waiting : (C : Type 0) (m : Message) → In m (sends (f m.from)) → m.id ≡ t → (Settled scheme f m → C ⊎ Waits) → C ⊎ Waits
    unless_waiting C m sent id then =
        elim (settled_or_not m sent) [
          | inl s ↦ then s
          | inr o ↦ inr (m.from, m, sent, id, o)
        ]

    module _ (x : Transition) (k : Content) (s : Stage scheme f t x k) where
      answered : Past scheme f causal unplaced t x k s ⊎ Waits
      answered =
          unless_waiting (Past scheme f causal unplaced t x k s) _ (own_offer scheme f causal t x k s) refl
          (λ one. elim (first_step scheme f causal unplaced t x k s one) [
            | inr p ↦ inl p
            | inl o ↦
                unless_waiting (Past scheme f causal unplaced t x k s) _ o refl
                (λ two. elim (second_step scheme f causal unplaced t x k s o two) [
                  | inr p ↦ inl p
                  | inl r ↦ unless_waiting (Past scheme f causal unplaced t x k s) _ r.sent refl (λ three. inl (third_step scheme f causal unplaced t x k s o r three))
                ])
          ])

      ended : IsEnd x.new ⊎ Waits
      ended =
          elim answered [
            | inr w ↦ inr w
            | inl p ↦
                elim p [
                  | inl a ↦ unless_waiting (IsEnd x.new) _ a.sent refl (λ four. inl (fourth_step scheme f causal unplaced t x k s a four))
                  | inr d ↦ inl (subst IsEnd (sym d) tt)
                ]
          ]

      abbrev Received_there : Type 0
      Received_there = (p : Transition) × Last f (Registry k.acquirer) t p × (p.new ≡ Completed)

      received : x.new ≡ Completed → Received_there ⊎ Waits
      received done =
          let says = own_tells scheme f causal t x k s Completed done in
          let sent = told_by scheme f causal t x k s (Registry t.code) x Itl says.0 s.is says.2 in
          unless_waiting Received_there _ sent refl
          (λ five.
          let told = fifth_step scheme f causal unplaced t x k s done says.0 says.1 sent five in
          unless_waiting Received_there _ told.sent refl (λ six. inl (sixth_step scheme f causal unplaced t x k s done told six)))

      -- the acquirer has not accepted what was cancelled
      abbrev Told : Type 0
      Told = (p : Transition) → Last f (Registry k.acquirer) t p → p.new ≡ Accepted → ⊥

      cancelled : x.new ≡ Cancelled → Told ⊎ Waits
      cancelled own = by (newest (transitions_of (f (Registry k.acquirer))) t) refl
        where
          not_accepted : (q : Transition) → Last f (Registry k.acquirer) t q → (q.new ≡ Accepted → ⊥) → Told
          not_accepted q at other p there e = other (ap (λ (z : Transition). z.new) (one_some q p (sym at ∙ there)) ∙ e)

          by_status : (q : Transition) → Last f (Registry k.acquirer) t q → (st : Status) → q.new ≡ st → Told ⊎ Waits
          by_status q at Accepted e =
              let l = told_end scheme f causal t x s.is Cancelled own (λ d. cc (d)) refl (λ d. cc (d)) in
              let sent = cancel_sent scheme f causal unplaced t x k s l.0 l.1 l.2 q at e in
              unless_waiting Told (notifies Itl (Registry k.acquirer) t notified.Cancelled) sent refl (λ settled. inl (λ p there a. acquirer_cancelled scheme f causal unplaced t x k s sent settled p there a))
          by_status q at Proposed e = inl (not_accepted q at (λ d. let y : Proposed ≡ Accepted = sym e ∙ d in cc (y)))
          by_status q at Checked e = inl (not_accepted q at (λ d. let y : Checked ≡ Accepted = sym e ∙ d in cc (y)))
          by_status q at Rejected e = inl (not_accepted q at (λ d. let y : Rejected ≡ Accepted = sym e ∙ d in cc (y)))
          by_status q at Terminated e = inl (not_accepted q at (λ d. let y : Terminated ≡ Accepted = sym e ∙ d in cc (y)))
          by_status q at Cancelled e = inl (not_accepted q at (λ d. let y : Cancelled ≡ Accepted = sym e ∙ d in cc (y)))
          by_status q at Completed e = inl (not_accepted q at (λ d. let y : Completed ≡ Accepted = sym e ∙ d in cc (y)))

          by : (o : Option Transition) → newest (transitions_of (f (Registry k.acquirer))) t ≡ o → Told ⊎ Waits
          by None none = inl (λ p there a. let e = sym none ∙ there in cc (e))
          by (Some q) at = by_status q at q.new refl

      abbrev Closed : Type 0
      Closed = IsOpen f t → ⊥

      closed_so : IsEnd x.new → (x.new ≡ Completed → Received_there) → (x.new ≡ Cancelled → Told) → Closed
      closed_so end done told = closed_here scheme f causal unplaced t x k s end done (λ own sent p there a. told own p there a)

      not_so : (st other : Status) → x.new ≡ st → (st ≡ other → ⊥) → {C : Type 0} → x.new ≡ other → C
      not_so st other e differ d = absurd (differ (sym e ∙ d))

      by_end : (st : Status) → x.new ≡ st → IsEnd x.new → Closed ⊎ Waits
      by_end Completed e end =
          elim (received e) [
            | inl p ↦ inl (closed_so end (λ d. p) (λ d. not_so Completed Cancelled e (λ z. cc (z)) d))
            | inr w ↦ inr w
          ]
      by_end Cancelled e end =
          elim (cancelled e) [
            | inl h ↦ inl (closed_so end (λ d. not_so Cancelled Completed e (λ z. cc (z)) d) (λ d. h))
            | inr w ↦ inr w
          ]
      by_end Rejected e end = inl (closed_so end (λ d. not_so Rejected Completed e (λ z. cc (z)) d) (λ d. not_so Rejected Cancelled e (λ z. cc (z)) d))
      by_end Terminated e end = inl (closed_so end (λ d. not_so Terminated Completed e (λ z. cc (z)) d) (λ d. not_so Terminated Cancelled e (λ z. cc (z)) d))
      by_end Proposed e end = absurd (subst IsEnd e end)
      by_end Checked e end = absurd (subst IsEnd e end)
      by_end Accepted e end = absurd (subst IsEnd e end)

      closed_or_waits : Closed ⊎ Waits
      closed_or_waits =
          elim ended [
            | inl end ↦ by_end x.new refl end
            | inr w ↦ inr w
          ]

    pub open_waits : IsOpen f t → (n : Node) × (m : Message) × In m (sends (f n)) × (m.id ≡ t) × (Settled scheme f m → ⊥)
    open_waits o = by (newest (transitions_of (f (Registry t.code))) t) refl
      where
        by : (q : Option Transition) → newest (transitions_of (f (Registry t.code))) t ≡ q → Waits
        by None none = absurd (unknown scheme f causal t none o)
        by (Some x) is =
            let s = stage scheme f causal unplaced t x is in
            elim (closed_or_waits x s.0 s.1) [
              | inl closed ↦ absurd (closed o)
              | inr w ↦ w
            ]

pub open_ones_wait : (scheme : Scheme) (events : List WorldEvent) → OpenOnesWait (run (opening scheme) events)
open_ones_wait scheme events t o =
    let w = run (opening scheme) events in
    let h = open_waits w.scheme (committed_of w) (committed_causal w (reached_sound scheme events)) (committed_unplaced w (run_placed (opening scheme) events (opening_placed scheme))) t o in
    (h.0, h.1, contains_in (sends (committed_of w h.0)) h.1 h.2, h.3, h.4)
