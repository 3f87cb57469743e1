-- The verdict on a clean-up, and its effect, by the transactions that it cancels.
use Rattle.std.proofs.Common.{Global, List, Vec, [], ap, map, refl, subst, sym, true, ℕ, ◌∙◌, ◌∷◌, ◌≡◌}
use Rattle.std.specs.Prelude.{is_some, option_map}
use Rattle.units.specs.declared.code.Node.TheVariants.{Itl}
use Rattle.status.specs.declared.id.TransactionId.{TransactionId}
use Rattle.status.specs.declared.moment.Moment.{Moment}
use Rattle.wire.specs.declared.input.Input.TheVariants.{CleanUp}
use Rattle.scheme.specs.declared.registries.Scheme.{Scheme}
use Rattle.protocol.specs.AtLog as log
use Rattle.protocol.specs.Deciding.{IsRepeat, recorded_if_room}
use Rattle.protocol.specs.History.{Entry, Transition, transitions_of}
use Rattle.protocol.specs.Verdict.{history, verdict}
use Rattle.units.proofs.Lists.Membership.{In, In_map}
use Rattle.safety.proofs.MovesAndHistories.LongerHistories.{made_history}
use Rattle.safety.proofs.MovesAndHistories.NewestTransitions.{Made}
use Rattle.log_core.specs.Effects.{IsEffect, transfer_state_in}
use Rattle.log_core.specs.Kept.{IsKept}
use Rattle.log_core.specs.Readings.{of_transition}
use Rattle.log_core.specs.Taking.{verdict_by_rules}
use Rattle.log_core.specs.Transfers.{IsOfKnown}
use Rattle.log_core.specs.declared.effect.TransferEffect.TheVariants.{Cancel}
use Rattle.log_core.specs.declared.tables.Tables.{Tables}
use Rattle.safety.proofs.OneLog.CleanedInOrder.{all_from_in}
use Rattle.log_core.proofs.CleanedUp.{checked_newest, expired_cancelled, has_expired}

abbrev ids_in : List Transition → List TransactionId
ids_in xs = map (λ (x : Transition). x.id) xs

-- where nothing has expired it is a repeat, and else it is recorded
none_cleaned : (scheme : Scheme) (es : List Entry) (xs : List Transition) → ids_in xs ≡ [] → log.clean_up scheme es xs ≡ IsRepeat
none_cleaned scheme es [] e = refl
none_cleaned scheme es (x ∷ xs) e = absurd (cc (e))

some_cleaned : (scheme : Scheme) (es : List Entry) (xs : List Transition) (t : TransactionId) (ts : List TransactionId) → ids_in xs ≡ t ∷ ts → log.clean_up scheme es xs ≡ recorded_if_room scheme es xs
some_cleaned scheme es [] t ts e = absurd (cc (e))
some_cleaned scheme es (x ∷ xs) t ts e = refl

module _ (scheme : Scheme) (tables : Tables) where
  abbrev past : List Entry
  past = history scheme Itl tables.records.inputs

  verdict_clean : (moment : Moment) → verdict_by_rules scheme tables (CleanUp moment) ≡ log.clean_up scheme past (log.expired (transitions_of past) moment.seconds)
  unfolding verdict
  verdict_clean moment = refl

  pub clean_up_repeats : (moment : Moment) → map (λ x. x.id) (log.expired (transitions_of (history scheme Itl tables.records.inputs)) moment.seconds) ≡ [] → verdict_by_rules scheme tables (CleanUp moment) ≡ IsRepeat
  clean_up_repeats moment none = verdict_clean moment ∙ none_cleaned scheme past (log.expired (transitions_of past) moment.seconds) none

  pub clean_up_enters : (moment : Moment) (t : TransactionId) (ts : List TransactionId) → map (λ x. x.id) (log.expired (transitions_of (history scheme Itl tables.records.inputs)) moment.seconds) ≡ t ∷ ts
      → verdict_by_rules scheme tables (CleanUp moment) ≡ recorded_if_room scheme (history scheme Itl tables.records.inputs) (log.expired (transitions_of (history scheme Itl tables.records.inputs)) moment.seconds)
  clean_up_enters moment t ts some = verdict_clean moment ∙ some_cleaned scheme past (log.expired (transitions_of past) moment.seconds) t ts some

  module _ (moment : ℕ) (ids : Vec TransactionId Global) (are : map (λ x. x.id) (log.expired (transitions_of (history scheme Itl tables.records.inputs)) moment) ≡ ids.items) where
    made_so : Made scheme Itl past
    made_so = made_history scheme Itl tables.records.inputs

    -- its transitions are what the cancellation of these asks for
    pub clean_up_effect : IsEffect (log.expired (transitions_of (history scheme Itl tables.records.inputs)) moment) moment (Cancel ids)
    clean_up_effect = (are, expired_cancelled scheme past made_so moment)

    -- each of these was known
    pub clean_up_known : IsKept scheme tables → IsOfKnown (transfer_state_in tables) (Cancel ids)
    clean_up_known kept =
        all_from_in (λ t. is_some (transfer_state_in tables t) ≡ true) ids.items
        (λ t i.
        let y = In_map (λ (x : Transition). x.id) t (log.expired (transitions_of past) moment) (subst (In t) (sym are) i) in
        let since = has_expired scheme past made_so moment y.0 y.1 in
        let x = checked_newest (transitions_of past) since.0 y.0.id since.1 in
        let stands : is_some (transfer_state_in tables y.0.id) ≡ true = ap is_some (kept.kept.transfers y.0.id ∙ ap (option_map of_transition) x.1) in
        subst (λ u. is_some (transfer_state_in tables u) ≡ true) y.2 stands)
