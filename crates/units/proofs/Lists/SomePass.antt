-- Tests that some element of a list passes, and that none passes.
use Rattle.std.proofs.Common.{◌≡◌, List, [], ◌∷◌, Bool, true, false, inl, inr, refl, sym, subst, ◌∙◌}
use Rattle.std.specs.Prelude.{◌||◌}
use Rattle.std.specs.List.{list_any}
use Rattle.std.proofs.lemmas.Bool.{or_parts, cases_Bool}
use Rattle.units.proofs.Lists.Membership.{In}

pub list_any_some : {X : Type 0} (p : X → Bool) (xs : List X) → list_any p xs ≡ true → (x : X) × In x xs × (p x ≡ true)
list_any_some p [] h = absurd (cc)
list_any_some p (x ∷ xs) h =
    elim (cases_Bool (p x)) [
      | inl y ↦ (x, inl refl, y)
      | inr n ↦ let r = list_any_some p xs (subst (λ b. (b || list_any p xs) ≡ true) n h) in (r.0, inr r.1, r.2)
    ]

pub list_any_none : {X : Type 0} (p : X → Bool) (xs : List X) (x : X) → list_any p xs ≡ false → In x xs → p x ≡ false
list_any_none p [] x h i = absurd i
list_any_none p (y ∷ ys) x h (inl e) = subst (λ z. p z ≡ false) e (or_parts (p y) (list_any p ys) h).0
list_any_none p (y ∷ ys) x h (inr i) = list_any_none p ys x (or_parts (p y) (list_any p ys) h).1 i

pub list_any_in : {X : Type 0} (p : X → Bool) (xs : List X) (x : X) → In x xs → p x ≡ true → list_any p xs ≡ true
list_any_in p xs x i h =
    elim (cases_Bool (list_any p xs)) [
      | inl y ↦ y
      | inr n ↦ absurd (let f = list_any_none p xs x n i in let e : false ≡ true = sym f ∙ h in cc)
    ]

pub list_any_not : {X : Type 0} (p : X → Bool) (xs : List X) → ((x : X) → In x xs → p x ≡ true → ⊥) → list_any p xs ≡ false
list_any_not p xs h =
    elim (cases_Bool (list_any p xs)) [
      | inl y ↦ let g = list_any_some p xs y in absurd (h g.0 g.1 g.2)
      | inr n ↦ n
    ]
