-- The transitions of a record, by its effect: their statuses and their transactions.
use Rattle.std.proofs.Common.{List, Some, [], ap, false, inl, inr, map, refl, subst, sym, true, ℕ, ◌∙◌, ◌∷◌, ◌≡◌}
use Rattle.std.specs.List.{AllByRecursion}
use Rattle.status.proofs.Ids.{id_of_same, same_id-refl}
use Rattle.status.specs.Id.{same_id}
use Rattle.status.specs.Status.{same_status}
use Rattle.status.specs.declared.id.TransactionId.{TransactionId}
use Rattle.status.specs.declared.status.Status.{Status}
use Rattle.status.specs.declared.status.Status.TheVariants.{Accepted, Cancelled, Checked, Completed, Proposed, Rejected, Terminated}
use Rattle.wire.specs.declared.input.Input.{Input}
use Rattle.scheme.specs.declared.registries.Scheme.{Scheme}
use Rattle.protocol.specs.History.{Entry, Transition, newest, transitions_of}
use Rattle.units.proofs.Lists.Membership.{In, In_map, map_In}
use Rattle.units.proofs.Lists.OneValue.{clash}
use Rattle.units.proofs.Lists.SomePass.{list_any_in, list_any_some}
use Rattle.safety.proofs.MovesAndHistories.NewestTransitions.{newest_id}
use Rattle.safety.proofs.MovesAndHistories.TableMoves.{LogMove, cancels, checks, forestalls, passes}
use Rattle.safety.proofs.MovesAndHistories.TransitionForms.{checked_status}
use Rattle.safety.proofs.OneLog.OwnersInLog.{IsBusy}
use Rattle.log_core.specs.Effects.{IsAdvanced, is_among}
use Rattle.log_core.proofs.KeptTransfers.{AreOf}

-- ---- what a status isn't

pub not_advanced : (s : Status) → (IsAdvanced s → ⊥) → (same_status s Accepted ≡ false) × (same_status s Completed ≡ false)
not_advanced Accepted h = absurd (h tt)
not_advanced Completed h = absurd (h tt)
not_advanced Rejected h = absurd (h tt)
not_advanced Proposed h = (refl, refl)
not_advanced Checked h = (refl, refl)
not_advanced Terminated h = (refl, refl)
not_advanced Cancelled h = (refl, refl)

pub advanced_unchecked : (s : Status) → IsAdvanced s → same_status s Checked ≡ false
advanced_unchecked Accepted h = refl
advanced_unchecked Completed h = refl
advanced_unchecked Rejected h = refl
advanced_unchecked Proposed h = absurd h
advanced_unchecked Checked h = absurd h
advanced_unchecked Terminated h = absurd h
advanced_unchecked Cancelled h = absurd h

pub advanced_ended : (s : Status) → IsAdvanced s → same_status s Accepted ≡ false → IsBusy s → ⊥
advanced_ended Accepted h e b = let clashing : true ≡ false = e in cc (clashing)
advanced_ended Completed h e b = b
advanced_ended Rejected h e b = b
advanced_ended Proposed h e b = h
advanced_ended Checked h e b = h
advanced_ended Terminated h e b = h
advanced_ended Cancelled h e b = h

checked_not_advanced : (found : List ℕ) → IsAdvanced (checked_status found) → ⊥
checked_not_advanced [] h = h
checked_not_advanced (c ∷ cs) h = h

-- a transaction that has come to such a status was known
pub advanced_known : (scheme : Scheme) (es : List Entry) (input : Input) (x : Transition) → LogMove scheme es input x → IsAdvanced x.new → (q : Transition) × (newest (transitions_of es) x.id ≡ Some q)
advanced_known scheme es input x (checks p moment found f s is none member) h = absurd (checked_not_advanced found h)
advanced_known scheme es input x (passes n moment q k new was content member right move) h = (q, ap (newest (transitions_of es)) (newest_id (transitions_of es) n.id q was).1 ∙ was)
advanced_known scheme es input x (cancels given moment t q k why was content stood) h = absurd h
advanced_known scheme es input x (forestalls r moment f member none) h = absurd h

-- ---- the transactions of the transitions

pub all_in : {X : Type 0} (P : X → Type 0) (xs : List X) (x : X) → AllByRecursion P xs → In x xs → P x
all_in P [] x h i = absurd i
all_in P (y ∷ ys) x h (inl e) = subst P e h.0
all_in P (y ∷ ys) x h (inr i) = all_in P ys x h.1 i

pub of_one : (P : Transition → Type 0) (x z : Transition) → P x → In z (x ∷ []) → P z
of_one P x z h (inl e) = subst P e h
of_one P x z h (inr i) = absurd i

pub here_first : (x : Transition) → AreOf (x ∷ []) (λ t. same_id x.id t)
here_first x =
    record {
      hit = λ t y. (x, inl refl, id_of_same x.id t y);
      miss = λ t n z i e.
          clash (same_id x.id t) (subst (λ u. same_id x.id u ≡ true) (of_one (λ z. x.id ≡ z.id) x z refl i ∙ e) (same_id-refl x.id)) n;
    }

pub here_second : (x : Transition) → AreOf (x ∷ []) (λ t. same_id t x.id)
here_second x =
    record {
      hit = λ t y. (x, inl refl, sym (id_of_same t x.id y));
      miss = λ t n z i e.
          clash (same_id t x.id) (subst (λ u. same_id u x.id ≡ true) (of_one (λ z. x.id ≡ z.id) x z refl i ∙ e) (same_id-refl x.id)) n;
    }

pub ids_of : (front : List Transition) (ids : List TransactionId) → map (λ (x : Transition). x.id) front ≡ ids → AreOf front (is_among ids)
ids_of front ids are =
    record {
      hit = λ t y.
          let u = list_any_some (λ u. same_id u t) ids y in
          let z = In_map (λ (x : Transition). x.id) u.0 front (subst (In u.0) (sym are) u.1) in
          (z.0, z.1, z.2 ∙ id_of_same u.0 t u.2);
      miss = λ t n z i e.
          let there : In z.id ids = subst (In z.id) are (map_In (λ (x : Transition). x.id) z front i) in
          clash (is_among ids t) (list_any_in (λ u. same_id u t) ids z.id there (subst (λ u. same_id z.id u ≡ true) e (same_id-refl z.id))) n;
    }
