-- Lists without repeats, and how two of them join.
use Rattle.std.proofs.Common.{◌≡◌, List, [], ◌∷◌, ◌++◌, inl, inr, refl, sym, subst}
use Rattle.units.proofs.Lists.Membership.{In, In_cases, In_right}

abbrev pub NoRepeat : {X : Type 0} → List X → Type 0
NoRepeat [] = Unit {0}
NoRepeat (x ∷ xs) = (In x xs → ⊥) × NoRepeat xs

pub no_repeat_append : {X : Type 0} (xs ys : List X) → NoRepeat xs → NoRepeat ys → ((x : X) → In x xs → In x ys → ⊥) → NoRepeat (xs ++ ys)
no_repeat_append [] ys n m apart = m
no_repeat_append (x ∷ xs) ys n m apart = (
  (λ h. elim (In_cases x xs ys h) [
    | inl i ↦ n.0 i
    | inr i ↦ apart x (inl refl) i
  ]),
  no_repeat_append xs ys n.1 m (λ z i j. apart z (inr i) j),
)

pub no_repeat_apart : {X : Type 0} (xs ys : List X) (x : X) → NoRepeat (xs ++ ys) → In x xs → In x ys → ⊥
no_repeat_apart [] ys x n i j = i
no_repeat_apart (z ∷ zs) ys x n (inl e) j = n.0 (In_right z zs ys (subst (λ w. In w ys) (sym e) j))
no_repeat_apart (z ∷ zs) ys x n (inr i) j = no_repeat_apart zs ys x n.1 i j
