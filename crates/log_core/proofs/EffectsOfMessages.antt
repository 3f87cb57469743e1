-- The effect that a message asks for where its transaction moves.
use Rattle.std.proofs.Common.{None, Option, Some, [], ap, inl, inr, refl, subst, sym, ℕ, List, true, is_some, ◌∙◌, ◌∷◌, ◌≡◌}
use Rattle.std.specs.List.{AllByRecursion}
use Rattle.std.specs.Prelude.{option_map}
use Rattle.status.specs.Content.{Content}
use Rattle.status.specs.Rows.{log_row}
use Rattle.status.specs.declared.id.TransactionId.{TransactionId}
use Rattle.status.specs.declared.moment.Moment.{Moment}
use Rattle.status.specs.declared.rows.RecordedStatus.TheVariants.{Stands}
use Rattle.status.specs.declared.rows.Row.TheVariants.{Move}
use Rattle.status.specs.declared.rows.RowInput.TheVariants.{Notified, Request}
use Rattle.status.specs.declared.status.Status.{Status}
use Rattle.status.specs.declared.status.Status.TheVariants.{Cancelled, Checked, Terminated}
use Rattle.wire.specs.declared.message.Message.{Message}
use Rattle.protocol.specs.Deciding as decide
use Rattle.protocol.specs.Deciding.{content_in, column_of_proposal}
use Rattle.protocol.specs.History.{Transition}
use Rattle.safety.proofs.MovesAndHistories.TableRows.{log_asked, log_from, log_notified, log_offered}
use Rattle.log_core.specs.Effects.{IsEffect, IsAdvanced}
use Rattle.log_core.specs.Readings.{TransferState, of_transition}
use Rattle.log_core.specs.Transfers.{IsOfKnown, IsWithdrawal}
use Rattle.log_core.specs.declared.effect.TransferEffect.{TransferEffect}
use Rattle.log_core.specs.declared.effect.TransferEffect.TheVariants.{Begin, Advance, Cancel}

module _ (t : TransactionId) (moment : Moment) (ms : List Message) (last : Option Transition) (new : Status) where
  -- ---- a proposal that moves is of a transaction that wasn't known

  checked_not_advanced : (found : List ℕ) → log_row (decide.known None) (column_of_proposal None found) ≡ Move new → IsAdvanced new → ⊥
  checked_not_advanced [] h s = let is : Checked ≡ new = cc (h) in subst IsAdvanced (sym is) s
  checked_not_advanced (c ∷ cs) h s = let is : Terminated ≡ new = cc (h) in subst IsAdvanced (sym is) s

  offer_new : (o : Option Transition) (found : List ℕ) → log_row (decide.known o) (column_of_proposal (content_in o) found) ≡ Move new → (o ≡ None) × (IsAdvanced new → ⊥)
  offer_new None found h = (refl, checked_not_advanced found h)
  offer_new (Some x) found h = absurd (log_offered x found new h)

  pub proposal_unknown : (found : List ℕ) → log_row (decide.known last) (column_of_proposal (content_in last) found) ≡ Move new → last ≡ None
  proposal_unknown found h = (offer_new last found h).0

  pub proposal_effect : (k k' : Content) (found : List ℕ) → k' ≡ k → log_row (decide.known last) (column_of_proposal (content_in last) found) ≡ Move new
      → IsEffect (decide.moved t (Some k) moment.seconds ms new ∷ []) moment.seconds (Begin t new (Some k'))
  proposal_effect k k' found same h = (decide.moved t (Some k) moment.seconds ms new, refl, refl, refl, ap (λ x. Some x) (sym same), refl, (offer_new last found h).1)

  -- ---- a notification that moves advances its transaction

  advances : (a told : Status) → log_row (Stands a) (Notified told) ≡ Move new → IsAdvanced new
  advances a told h =
      elim (log_from a told new h) [
        | inl m ↦ elim m.2 [ inl e ↦ subst IsAdvanced (sym (m.1 ∙ e)) tt | inr e ↦ subst IsAdvanced (sym (m.1 ∙ e)) tt ]
        | inr m ↦ subst IsAdvanced (sym m.1) tt
      ]

  pub notified_effect : (k : Option Content) (told : Status) → log_row (decide.known last) (Notified told) ≡ Move new → IsEffect (decide.moved t k moment.seconds ms new ∷ []) moment.seconds (Advance t new)
  notified_effect k told h =
      let a = log_notified (decide.known last) told new h in
      (decide.moved t k moment.seconds ms new, refl, refl, refl, refl, advances a.0 told (ap (λ x. log_row x (Notified told)) (sym a.1) ∙ h))

  -- ---- a request that moves cancels its transaction, which is known, or begins one

  pub request_effect : (effect : TransferEffect) → log_row (decide.known last) Request ≡ Move new → IsWithdrawal t (option_map of_transition last) effect
      → IsEffect (decide.moved t (content_in last) moment.seconds ms new ∷ []) moment.seconds effect
  request_effect effect h = go last effect (log_asked (decide.known last) new h).1
    where
      go : (o : Option Transition) (e : TransferEffect) → new ≡ Cancelled → IsWithdrawal t (option_map of_transition o) e → IsEffect (decide.moved t (content_in o) moment.seconds ms new ∷ []) moment.seconds e
      go None e cancelled is =
          subst (λ f. IsEffect (decide.moved t None moment.seconds ms new ∷ []) moment.seconds f) (sym is)
          (decide.moved t None moment.seconds ms new, refl, refl, cancelled, refl, refl, λ s. s)
      go (Some x) (Cancel ids) cancelled is = (sym is, ((cancelled, refl), tt))
      go (Some x) (Begin id s k) cancelled is = absurd is
      go (Some x) (Advance id s) cancelled is = absurd is

-- a withdrawal is of what is known, or of what wasn't
pub withdrawn_known : (t : TransactionId) (old : TransactionId → Option TransferState) (effect : TransferEffect) → IsWithdrawal t (old t) effect → IsOfKnown old effect
withdrawn_known t old effect h = go (old t) effect refl h
  where
    go : (o : Option TransferState) (e : TransferEffect) → old t ≡ o → IsWithdrawal t o e → IsOfKnown old e
    go None e was is = subst (IsOfKnown old) (sym is) was
    go (Some x) (Cancel ids) was is = subst (λ l. AllByRecursion (λ u. is_some (old u) ≡ true) l) (sym is) (ap is_some was, tt)
    go (Some x) (Begin id s k) was is = absurd is
    go (Some x) (Advance id s) was is = absurd is
