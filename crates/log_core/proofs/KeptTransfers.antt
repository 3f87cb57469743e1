-- Where transactions stand after the transitions of one more record, and which of them stand Checked.
use Rattle.std.proofs.Common.{Bool, List, None, Option, Some, ap, cond, false, inl, inr, not, refl, sym, true, ℕ, ◌&&◌, ◌++◌, ◌==◌, ◌||◌, ◌∙◌, ◌∷◌, ◌≡◌}
use Rattle.std.specs.Prelude.{if◌then◌else◌, option_map}
use Rattle.std.specs.Option.{option_map_or}
use Rattle.std.proofs.Math.Bool.{or-false}
use Rattle.std.proofs.lemmas.Bool.{and_left, and_right, cases_Bool, cond-false, cond-true}
use Rattle.status.proofs.Ids.{id_of_same}
use Rattle.status.specs.Id.{same_id}
use Rattle.status.specs.Status.{same_status}
use Rattle.status.specs.declared.id.TransactionId.{TransactionId}
use Rattle.status.specs.declared.status.Status.{Status}
use Rattle.status.specs.declared.status.Status.TheVariants.{Checked}
use Rattle.protocol.specs.History.{Transition, newest}
use Rattle.units.proofs.Lists.Membership.{In}
use Rattle.safety.proofs.MovesAndHistories.NewestTransitions.{newest_append, newest_in}
use Rattle.log_core.specs.Effects.{came_to}
use Rattle.log_core.specs.Readings.{TransferState, is_checked_since, of_transition}

-- the transactions that pass the test are those of the transitions
pub record AreOf (front : List Transition) (among : TransactionId → Bool) : Type 0 where
  pub hit : (t : TransactionId) → among t ≡ true → (z : Transition) × In z front × (z.id ≡ t)
  pub miss : (t : TransactionId) → among t ≡ false → (z : Transition) → In z front → z.id ≡ t → ⊥

-- it stands Checked since that second, as its newest transition says
abbrev checked_at : ℕ → Option Transition → Bool
checked_at since o = option_map_or (λ (x : Transition). same_status x.new Checked && (x.moment == since)) o false

-- ---- transactions that were known

module _ (front xs : List Transition) (among : TransactionId → Bool) (of : AreOf front among) where
  pub newest_among : (t : TransactionId) → among t ≡ true → (z : Transition) × In z front × (z.id ≡ t) × (newest (front ++ xs) t ≡ Some z)
  newest_among t y = let z = of.hit t y in newest_in front xs z.0 t z.1 z.2

  pub newest_other : (t : TransactionId) → among t ≡ false → newest (front ++ xs) t ≡ newest xs t
  newest_other t n =
      elim (newest_append front xs t) [
        | inl u ↦ u
        | inr z ↦ absurd (of.miss t n z.0 z.1 z.2)
      ]

  -- each of them has come to the same status at the same moment, with the content that it had
  pub transfer_state_came : (new : Status) (moment : ℕ) → ((z : Transition) → In z front → (z.new ≡ new) × (z.moment ≡ moment)) → ((z : Transition) → In z front → (q : Transition) × (newest xs z.id ≡ Some q) × (z.content ≡ q.content))
      → (t : TransactionId)
      → (if among t then option_map (came_to new moment) (option_map of_transition (newest xs t)) else option_map of_transition (newest xs t)) ≡ option_map of_transition (newest (front ++ xs) t)
  transfer_state_came new moment status follows t =
      let old = option_map of_transition (newest xs t) in
      elim (cases_Bool (among t)) [
        | inl y ↦
            let z = newest_among t y in
            let q = follows z.0 z.1 in
            let was : newest xs t ≡ Some q.0 = ap (newest xs) (sym z.2) ∙ q.1 in
            let at = status z.0 z.1 in
            let status_is = sym at.0 in
            let content_is = sym q.2 in
            let moment_is = sym at.1 in
            let same : ◌≡◌ {A = Option TransferState} (Some (came_to new moment (of_transition q.0))) (Some (of_transition z.0)) =
            λ i. Some (record { status = status_is i; content = content_is i; since = moment_is i }) in
            cond-true (among t) (option_map (came_to new moment) old) old y
            ∙ ap (λ o. option_map (came_to new moment) (option_map of_transition o)) was
            ∙ same
            ∙ ap (option_map of_transition) (sym z.3)
        | inr n ↦ cond-false (among t) (option_map (came_to new moment) old) old n ∙ ap (option_map of_transition) (sym (newest_other t n))
      ]

  -- none of them stands Checked
  pub waits_ended : ((z : Transition) → In z front → same_status z.new Checked ≡ false) → (since : ℕ) (t : TransactionId) → (not (among t) && is_checked_since xs since t) ≡ is_checked_since (front ++ xs) since t
  waits_ended ended since t =
      elim (cases_Bool (among t)) [
        | inl y ↦
            let z = newest_among t y in
            ap (λ b. not b && is_checked_since xs since t) y
            ∙ sym (and_left (same_status z.0.new Checked) (z.0.moment == since) (ended z.0 z.1))
            ∙ ap (checked_at since) (sym z.3)
        | inr n ↦ ap (λ b. not b && is_checked_since xs since t) n ∙ ap (checked_at since) (sym (newest_other t n))
      ]

-- ---- a transaction that wasn't known

module _ (x : Transition) (xs : List Transition) (none : newest xs x.id ≡ None) where
  pub transfer_state_begun : (t : TransactionId) → (if same_id x.id t then Some (of_transition x) else option_map of_transition (newest xs t)) ≡ option_map of_transition (newest (x ∷ xs) t)
  transfer_state_begun t = go (same_id x.id t) (newest xs t)
    where
      go : (b : Bool) (o : Option Transition) → cond b (Some (of_transition x)) (option_map of_transition o) ≡ option_map of_transition (cond b (Some x) o)
      go true o = refl
      go false o = refl

  pub waits_begun : (since : ℕ) (t : TransactionId) → ((same_status x.new Checked && (same_id x.id t && (x.moment == since))) || is_checked_since xs since t) ≡ is_checked_since (x ∷ xs) since t
  waits_begun since t =
      let fits = x.moment == since in
      let now = same_status x.new Checked in
      let old = is_checked_since xs since t in
      elim (cases_Bool (same_id x.id t)) [
        | inl y ↦
            let fresh : old ≡ false = ap (checked_at since) (ap (newest xs) (sym (id_of_same x.id t y)) ∙ none) in
            (λ i. (now && (y i && fits)) || fresh i)
            ∙ or-false (now && fits)
            ∙ ap (checked_at since) (sym (cond-true (same_id x.id t) (Some x) (newest xs t) y))
        | inr n ↦
            (λ i. (now && (n i && fits)) || old)
            ∙ ap (λ b. b || old) (and_right now false refl)
            ∙ ap (checked_at since) (sym (cond-false (same_id x.id t) (Some x) (newest xs t) n))
      ]
