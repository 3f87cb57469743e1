-- Two lists without repeats and with the same members are equally long.
use Rattle.std.proofs.Common.{◌≡◌, ◌≤◌, List, [], ◌∷◌, ◌++◌, inl, inr, refl, sym, ap, subst, arith, length, length-append}
use Rattle.units.proofs.Lists.Membership.{In, In_cases, In_left, In_right}
use Rattle.units.proofs.Lists.NoRepeats.{NoRepeat}

-- a list around one of its members
pub parts : {X : Type 0} (x : X) (ys : List X) → In x ys → (front : List X) × (back : List X) × (ys ≡ front ++ x ∷ back)
parts x [] h = absurd h
parts x (y ∷ ys) (inl e) = ([], ys, ap (λ z. z ∷ ys) e)
parts x (y ∷ ys) (inr h) = let r = parts x ys h in (y ∷ r.0, r.1, ap (λ zs. y ∷ zs) r.2)

without : {X : Type 0} (x z : X) (front back : List X) → (x ≡ z → ⊥) → In z (front ++ x ∷ back) → In z (front ++ back)
without x z front back other h =
    elim (In_cases z front (x ∷ back) h) [
      | inl i ↦ In_left z front back i
      | inr i ↦
          elim i [
            | inl e ↦ absurd (other e)
            | inr j ↦ In_right z front back j
          ]
    ]

-- a list without repeats is no longer than one that has all its members
no_longer : {X : Type 0} (xs ys : List X) → NoRepeat xs → ((x : X) → In x xs → In x ys) → length xs ≤ length ys
no_longer [] ys n sub = omega arith
no_longer {X} (x ∷ xs) ys n sub =
    let s = parts x ys (sub x (inl refl)) in
    let rest = no_longer xs (s.0 ++ s.1) n.1 (λ z i. without x z s.0 s.1 (λ e. n.0 (subst (λ w. In w xs) (sym e) i)) (subst (λ ws. In z ws) s.2 (sub z (inr i)))) in
    let a = ap length s.2 in
    let b = length-append s.0 (x ∷ s.1) in
    let c = length-append s.0 s.1 in
    omega arith

pub same_length : {X : Type 0} (xs ys : List X) → NoRepeat xs → NoRepeat ys → ((x : X) → In x xs → In x ys) → ((x : X) → In x ys → In x xs) → length xs ≡ length ys
same_length xs ys n m sub sup = let a = no_longer xs ys n sub in let b = no_longer ys xs m sup in omega arith
