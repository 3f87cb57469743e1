-- A list whose keys rise is the only ordered one with its elements.
use Rattle.std.proofs.Common.{◌≡◌, ℕ, ◌+◌, ◌≤◌, ◌<◌, inl, inr, cond, List, [], ◌∷◌, refl, sym, ap, subst, ◌∙◌, arith}
use Rattle.std.specs.Prelude.{nat_lt, ◌==◌}
use Rattle.std.specs.List.{sum_by}
use Rattle.std.proofs.lemmas.Bool.{cond-true, cond-false, ltb-true, lt-ltb, eqb-true, eq-eqb, cases_Bool}
use Rattle.std.proofs.lemmas.List.Sums.{sum_by-cons}
use Rattle.units.proofs.Lists.Membership.{In}

-- each key is above the earlier ones, and none is below the number
abbrev pub Rise : {X : Type 0} → (X → ℕ) → ℕ → List X → Type 0
Rise key low [] = Unit {0}
Rise key low (x ∷ xs) = (low ≤ key x) × Rise key (key x + 1) xs

-- no key is below an earlier one or the number
abbrev pub NeverFall : {X : Type 0} → (X → ℕ) → ℕ → List X → Type 0
NeverFall key low [] = Unit {0}
NeverFall key low (x ∷ xs) = (low ≤ key x) × NeverFall key (key x) xs

no-sum : {X : Type 0} (f : X → ℕ) (xs : List X) → ((x : X) → In x xs → f x ≡ 0) → sum_by f xs ≡ 0
no-sum f [] each = refl
no-sum f (x ∷ xs) each = let a = sum_by-cons f x xs in let b = each x (inl refl) in let c = no-sum f xs (λ z i. each z (inr i)) in omega arith

some-sum : {X : Type 0} (f : X → ℕ) (xs : List X) (x : X) → In x xs → f x ≡ 1 → 1 ≤ sum_by f xs
some-sum f [] x i one = absurd i
some-sum f (y ∷ ys) x (inl e) one = let a = sum_by-cons f y ys in let b = ap f e ∙ one in omega (arith, a, b)
some-sum f (y ∷ ys) x (inr i) one = let a = sum_by-cons f y ys in let b = some-sum f ys x i one in omega (arith, a, b)

module _ {X : Type 0} (key : X → ℕ) where
  rises : (low : ℕ) (xs : List X) (x : X) → Rise key low xs → In x xs → low ≤ key x
  rises low [] x h i = absurd i
  rises low (y ∷ ys) x h (inl e) = subst (λ z. low ≤ key z) e h.0
  rises low (y ∷ ys) x h (inr i) = let later = rises (key y + 1) ys x h.1 i in let here = h.0 in omega (arith, later, here)

  never-falls : (low : ℕ) (xs : List X) (x : X) → NeverFall key low xs → In x xs → low ≤ key x
  never-falls low [] x h i = absurd i
  never-falls low (y ∷ ys) x h (inl e) = subst (λ z. low ≤ key z) e h.0
  never-falls low (y ∷ ys) x h (inr i) = let later = never-falls (key y) ys x h.1 i in let here = h.0 in omega (arith, later, here)

  abbrev is_at : ℕ → X → ℕ
  is_at k x = cond (key x == k) 1 0

  abbrev is_below : ℕ → X → ℕ
  is_below k x = cond (nat_lt (key x) k) 1 0

  at-one : (k : ℕ) (x : X) → key x ≡ k → is_at k x ≡ 1
  at-one k x e = cond-true (key x == k) 1 0 (eq-eqb (key x) k e)

  at-none : (k : ℕ) (x : X) → k < key x → is_at k x ≡ 0
  at-none k x low = elim (cases_Bool (key x == k)) [
    | inl y ↦ absurd (let e = eqb-true (key x) k y in omega (arith, e, low))
    | inr n ↦ cond-false (key x == k) 1 0 n
  ]

  below-one : (k : ℕ) (x : X) → key x < k → is_below k x ≡ 1
  below-one k x low = cond-true (nat_lt (key x) k) 1 0 (lt-ltb (key x) k low)

  below-none : (k : ℕ) (x : X) → k ≤ key x → is_below k x ≡ 0
  below-none k x up = elim (cases_Bool (nat_lt (key x) k)) [
    | inl y ↦ absurd (let e = ltb-true (key x) k y in omega (arith, e, up))
    | inr n ↦ cond-false (nat_lt (key x) k) 1 0 n
  ]

  first-same : (x y : X) (xs ys : List X) → Rise key (key x + 1) xs → NeverFall key (key y) ys → sum_by (is_below (key x + 1)) (y ∷ ys) ≡ sum_by (is_below (key x + 1)) (x ∷ xs) → In y (x ∷ xs) → y ≡ x
  first-same x y xs ys up never sums (inl e) = sym e
  first-same x y xs ys up never sums (inr i) =
      let high = rises (key x + 1) xs y up i in
      let none = no-sum (is_below (key x + 1)) (y ∷ ys) (λ z j. below-none (key x + 1) z (go z j high)) in
      let one = some-sum (is_below (key x + 1)) (x ∷ xs) x (inl refl) (below-one (key x + 1) x (omega arith)) in
      absurd (omega (arith, none, one, sums))
    where
      go : (z : X) → In z (y ∷ ys) → key x + 1 ≤ key y → key x + 1 ≤ key z
      go z (inl e) high = subst (λ q. key x + 1 ≤ key q) e high
      go z (inr j) high = let later = never-falls (key y) ys z never j in omega (arith, later, high)

  pub one-order : (low from : ℕ) (xs ys : List X) → Rise key low xs → NeverFall key from ys → ((f : X → ℕ) → sum_by f ys ≡ sum_by f xs) → ((z : X) → In z ys → In z xs) → ys ≡ xs
  one-order low from [] [] up never sums each = refl
  one-order low from [] (y ∷ ys) up never sums each = absurd (each y (inl refl))
  one-order low from (x ∷ xs) [] up never sums each = let a = sums (λ _. 1) in let b = sum_by-cons (λ _. 1) x xs in absurd (omega (arith, a, b))
  one-order low from (x ∷ xs) (y ∷ ys) up never sums each =
      let same = first-same x y xs ys up.1 never.1 (sums (is_below (key x + 1))) (each y (inl refl)) in
      let rest = one-order (key x + 1) (key y) xs ys up.1 never.1 (λ f. left f same) (λ z i. later z i same (each z (inr i))) in
      ap (λ q. q ∷ ys) same ∙ ap (λ all. x ∷ all) rest
    where
      left : (f : X → ℕ) → y ≡ x → sum_by f ys ≡ sum_by f xs
      left f e = let a = sums f in let b = sum_by-cons f y ys in let c = sum_by-cons f x xs in let d = ap f e in omega (arith, a, b, c, d)

      later : (z : X) → In z ys → y ≡ x → In z (x ∷ xs) → In z xs
      later z i e (inr j) = j
      later z i e (inl same) =
          let f = is_at (key x) in
          let none = no-sum f xs (λ q j. let high = rises (key x + 1) xs q up.1 j in at-none (key x) q (omega (arith, high))) in
          let one = some-sum f ys z i (at-one (key x) z (sym (ap key same))) in
          let sames = left f e in
          absurd (omega (arith, none, one, sames))
