-- A cancellation is asked for only of a transaction that is known, and what is known of a transfer out of the
-- registry is where it stands.
use Rattle.protocol.specs.Deciding as decide
use Rattle.wire.specs.declared.input.Input.TheVariants.{Ack, CleanUp, CloseAccount, Eligible, OpenAccount, Propose, Received, Request}
use Rattle.std.proofs.Common.{List, None, Some, [], ap, false, inl, inr, refl, sym, true, ◌&&◌, ◌++◌, ◌∙◌, ◌∷◌, ◌≡◌, Option}
use Rattle.units.specs.declared.code.Code.{Code}
use Rattle.safety.proofs.OneRegistry.RecordedEntries.{Entered, entered_registry, recorded_causes}
use Rattle.protocol.specs.Deciding.{IsRecorded}
use Rattle.protocol.specs.History.{Entry, Transition, is_known, is_request_of, is_requested, newest, transitions_of}
use Rattle.wire.specs.declared.input.Input.{Input}
use Rattle.scheme.specs.declared.registries.Scheme.{Scheme}
use Rattle.status.specs.declared.id.TransactionId.{TransactionId}
use Rattle.std.proofs.lemmas.Bool.{and_parts, false_from_ne_true, not-false, or_from}
use Rattle.units.proofs.Lists.OneValue.{clash}
use Rattle.status.specs.Id.{same_id}
use Rattle.status.proofs.Ids.{id_of_same}
use Rattle.protocol.specs.AtRegistry.{in_role, registry_verdict, request_column, request_refusals}
use Rattle.std.specs.Prelude.{is_some}
use Rattle.safety.proofs.MovesAndHistories.NewestTransitions.{newest_append, Made, newest_id}
use Rattle.units.specs.Code.{same_code}
use Rattle.status.specs.declared.rows.RecordedStatus.TheVariants.{Bare, Stands, Unknown}
use Rattle.status.specs.Content.{Content}
use Rattle.units.specs.declared.code.Node.TheVariants.{Registry}
use Rattle.std.specs.Option.{option_map_or}
use Rattle.safety.proofs.OneRegistry.TransactionEnds.{own_contents}

unknown_before : (xs rest : List Transition) (t : TransactionId) → newest (xs ++ rest) t ≡ None → newest rest t ≡ None
unknown_before xs rest t h =
    elim (newest_append xs rest t) [
      | inl u ↦ sym u ∙ h
      | inr u ↦ let e = sym u.3 ∙ h in absurd (cc (e))
    ]

module _ (scheme : Scheme) (c : Code) where
  asked_known : (es : List Entry) (t : TransactionId) (input : Input) (xs : List Transition) → registry_verdict scheme c es input ≡ IsRecorded xs → newest (transitions_of es) t ≡ None → is_request_of t input ≡ false
  asked_known es t (Request u) xs entered none =
      let causes = recorded_causes (request_refusals c es u) (in_role scheme c es u (newest (transitions_of es) u) 0 (request_column es u)) xs entered in
      let there = (and_parts (same_code u.code c) (is_known (transitions_of es) u) (not-false (same_code u.code c && is_known (transitions_of es) u) causes.0)).1 in
      false_from_ne_true (same_id u t) (λ y. clash (is_known (transitions_of es) u) there (ap (is_known (transitions_of es)) (id_of_same u t y) ∙ ap is_some none))
  asked_known es t (Propose o) xs entered none = refl
  asked_known es t (OpenAccount n) xs entered none = refl
  asked_known es t (CloseAccount n) xs entered none = refl
  asked_known es t (Ack n) xs entered none = refl
  asked_known es t (CleanUp m) xs entered none = refl
  asked_known es t (Eligible d may) xs entered none = refl
  asked_known es t (Received m moment) xs entered none = refl

  -- the cancellation of a transaction that isn't known wasn't asked for
  pub unknown_unrequested : (es : List Entry) → Entered scheme c es → (t : TransactionId) → newest (transitions_of es) t ≡ None → is_requested es t ≡ false
  unknown_unrequested [] entered t none = refl
  unknown_unrequested (e ∷ es) entered t none =
      let before = unknown_before e.transitions (transitions_of es) t none in
      or_from (is_request_of t e.input) (is_requested es t) (asked_known es t e.input e.transitions (entered_registry scheme c e es entered) before) (unknown_unrequested es entered.1 t before)

-- a transfer out of the registry always has a content, so its status says what is known of it
pub own_known : (scheme : Scheme) (c : Code) (es : List Entry) → Made scheme (Registry c) es → (t : TransactionId) → same_code t.code c ≡ true
    → decide.known (newest (transitions_of es) t) ≡ option_map_or (λ x. Stands x.new) (newest (transitions_of es) t) Unknown
own_known scheme c es h t own = go (newest (transitions_of es) t) refl
  where
    go : (o : Option Transition) → newest (transitions_of es) t ≡ o → decide.known o ≡ option_map_or (λ (x : Transition). Stands x.new) o Unknown
    go None e = refl
    go (Some x) e =
        let about = newest_id (transitions_of es) t x e in
        let content = own_contents scheme c es h x about.0 (ap (λ (z : TransactionId). same_code z.code c) about.1 ∙ own) in
        ap (λ (k : Option Content). option_map_or (λ (z : Content). Stands x.new) k Bare) content.is
