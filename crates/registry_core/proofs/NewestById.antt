-- The newest transition of each transaction after one more, for tables with a row for each identifier.
use Rattle.std.proofs.Common.{Bool, List, None, Option, Some, [], ap, false, inl, inr, subst, sym, true, ◌++◌, ◌∙◌, ◌∷◌, ◌≡◌}
use Rattle.protocol.specs.History.{Entry, Transition, newest, transitions_of}
use Rattle.status.specs.declared.id.TransactionId.{TransactionId}
use Rattle.std.proofs.lemmas.Bool.{cases_Bool, cond-false, cond-true}
use Rattle.status.proofs.Ids.{id_of_same, same_id-refl}
use Rattle.protocol.specs.Deciding.{known}
use Rattle.std.specs.Prelude.{if◌then◌else◌, option_map}
use Rattle.status.specs.Id.{same_id}
use Rattle.registry_core.specs.Readings.{row_at}

pub newest_here : (x : Transition) (xs : List Transition) → newest (x ∷ xs) x.id ≡ Some x
newest_here x xs = cond-true (same_id x.id x.id) (Some x) (newest xs x.id) (same_id-refl x.id)

pub newest_there : (x : Transition) (xs : List Transition) (t : TransactionId) → same_id x.id t ≡ false → newest (x ∷ xs) t ≡ newest xs t
newest_there x xs t other = cond-false (same_id x.id t) (Some x) (newest xs t) other

-- an entry that makes no transition, and one that makes one
pub transitions_none : (e : Entry) (es : List Entry) → e.transitions ≡ [] → transitions_of (e ∷ es) ≡ transitions_of es
transitions_none e es none = ap (λ xs. xs ++ transitions_of es) none

pub transitions_one : (e : Entry) (es : List Entry) (x : Transition) → e.transitions ≡ x ∷ [] → transitions_of (e ∷ es) ≡ x ∷ transitions_of es
transitions_one e es x one = ap (λ xs. xs ++ transitions_of es) one

-- ---- tables that keep the rows of some identifiers, read off the newest transitions

module _ {R : Type 0} (keep : TransactionId → Bool) where
  module _ (row row' : TransactionId → Transition → R) (x : Transition) (xs : List Transition) (others : (t : TransactionId) → keep t ≡ true → same_id x.id t ≡ false → row' t ≡ row t) where
    -- a row of another identifier
    row_there : (t : TransactionId) → same_id x.id t ≡ false → row_at keep row xs t ≡ row_at keep row' (x ∷ xs) t
    row_there t other =
        elim (cases_Bool (keep t)) [
          | inl y ↦
              cond-true (keep t) (option_map (row t) (newest xs t)) None y
              ∙ ap (λ (f : Transition → R). option_map f (newest xs t)) (sym (others t y other))
              ∙ ap (option_map (row' t)) (sym (newest_there x xs t other))
              ∙ sym (cond-true (keep t) (option_map (row' t) (newest (x ∷ xs) t)) None y)
          | inr n ↦ cond-false (keep t) (option_map (row t) (newest xs t)) None n ∙ sym (cond-false (keep t) (option_map (row' t) (newest (x ∷ xs) t)) None n)
        ]

    row_here : (t : TransactionId) → keep x.id ≡ true → same_id x.id t ≡ true → Some (row' x.id x) ≡ row_at keep row' (x ∷ xs) t
    row_here t kept same =
        subst (λ u. Some (row' x.id x) ≡ row_at keep row' (x ∷ xs) u) (id_of_same x.id t same)
        (sym (cond-true (keep x.id) (option_map (row' x.id) (newest (x ∷ xs) x.id)) None kept ∙ ap (option_map (row' x.id)) (newest_here x xs)))

    -- the transition's row is put in
    pub row_put : (old new : TransactionId → Option R) → keep x.id ≡ true → ((t : TransactionId) → old t ≡ row_at keep row xs t)
        → ((t : TransactionId) → new t ≡ (if same_id x.id t then Some (row' x.id x) else old t)) → (t : TransactionId) → new t ≡ row_at keep row' (x ∷ xs) t
    row_put old new kept was put t =
        elim (cases_Bool (same_id x.id t)) [
          | inl y ↦ put t ∙ cond-true (same_id x.id t) (Some (row' x.id x)) (old t) y ∙ row_here t kept y
          | inr n ↦ put t ∙ cond-false (same_id x.id t) (Some (row' x.id x)) (old t) n ∙ was t ∙ row_there t n
        ]

    -- the row of the transaction, which is known, is changed
    pub row_changed : (change : R → R) (q : Transition) (old new : TransactionId → Option R) → keep x.id ≡ true → newest xs x.id ≡ Some q → row' x.id x ≡ change (row x.id q) → ((t : TransactionId) → old t ≡ row_at keep row xs t)
        → ((t : TransactionId) → new t ≡ (if same_id x.id t then option_map change (old t) else old t)) → (t : TransactionId) → new t ≡ row_at keep row' (x ∷ xs) t
    row_changed change q old new kept known changed was put =
        row_put old new kept was (λ t. put t ∙ (elim (cases_Bool (same_id x.id t)) [
          | inl y ↦
              let here : old x.id ≡ Some (row x.id q) =
              was x.id ∙ cond-true (keep x.id) (option_map (row x.id) (newest xs x.id)) None kept ∙ ap (option_map (row x.id)) known in
              let there : option_map change (old t) ≡ Some (row' x.id x) =
              ap (λ u. option_map change (old u)) (sym (id_of_same x.id t y)) ∙ ap (option_map change) here ∙ ap (λ (r : R). Some r) (sym changed) in
              cond-true (same_id x.id t) (option_map change (old t)) (old t) y ∙ there ∙ sym (cond-true (same_id x.id t) (Some (row' x.id x)) (old t) y)
          | inr n ↦ cond-false (same_id x.id t) (option_map change (old t)) (old t) n ∙ sym (cond-false (same_id x.id t) (Some (row' x.id x)) (old t) n)
        ]))

    -- a table that doesn't keep the transition's identifier stays as it is
    pub row_kept : keep x.id ≡ false → (t : TransactionId) → row_at keep row xs t ≡ row_at keep row' (x ∷ xs) t
    row_kept out t =
        elim (cases_Bool (same_id x.id t)) [
          | inl y ↦
              let away : keep t ≡ false = ap keep (sym (id_of_same x.id t y)) ∙ out in
              cond-false (keep t) (option_map (row t) (newest xs t)) None away ∙ sym (cond-false (keep t) (option_map (row' t) (newest (x ∷ xs) t)) None away)
          | inr n ↦ row_there t n
        ]
