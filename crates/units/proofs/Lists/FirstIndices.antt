-- Where in a list a test first passes.
use Rattle.std.proofs.Common.{◌≡◌, ℕ, suc, ◌+◌, ◌<◌, Bool, true, false, List, [], ◌∷◌, map, find, length, Option, Some, None, option_map, is_some, cond, refl, sym, ap, subst, ◌∙◌, arith}
use Rattle.std.specs.Prelude.{slice_get}
use Rattle.std.specs.List.{position_from}
use Rattle.std.proofs.lemmas.Option.{slice_get_within}

-- the element at that index passes, and it is the first one that does
pub index_passes : {X : Type 0} (p : X → Bool) (k : ℕ) (xs : List X) (i : ℕ) → position_from p k xs ≡ Some i
    → (j : ℕ) × (i ≡ k + j) × ((x : X) × (slice_get xs j ≡ Some x) × (p x ≡ true) × (find p xs ≡ Some x))
index_passes p k [] i e = absurd (cc (e))
index_passes {X = X} p k (x ∷ xs) i e = pick (index_passes p (k + 1) xs i) (p x) refl e
  where
    pick : (position_from p (k + 1) xs ≡ Some i → (j : ℕ) × (i ≡ k + 1 + j) × ((y : X) × (slice_get xs j ≡ Some y) × (p y ≡ true) × (find p xs ≡ Some y))) → (b : Bool) → p x ≡ b
        → cond b (Some k) (position_from p (k + 1) xs) ≡ Some i → (j : ℕ) × (i ≡ k + j) × ((y : X) × (slice_get (x ∷ xs) j ≡ Some y) × (p y ≡ true) × (cond b (Some x) (find p xs) ≡ Some y))
    pick rest true is h = let same : k ≡ i = cc (h) in (0, omega (arith, same), (x, refl, is, refl))
    pick rest false is h = let r = rest h in (suc r.0, omega (arith, r.1), r.2)

pub index_below : {X : Type 0} (p : X → Bool) (xs : List X) (i : ℕ) → position_from p 0 xs ≡ Some i → i < length xs
index_below p xs i e =
    let r = index_passes p 0 xs i e in
    let below = slice_get_within xs r.0 r.2.0 r.2.1 in
    omega (arith, r.1, below)

-- the first element that passes stands at the index
pub index_find : {X : Type 0} (p : X → Bool) (xs : List X) (i : ℕ) → position_from p 0 xs ≡ Some i → slice_get xs i ≡ find p xs
index_find p xs i e =
    let r = index_passes p 0 xs i e in
    let same : r.0 ≡ i = omega (arith, r.1) in
    subst (λ j. slice_get xs j ≡ find p xs) same (r.2.1 ∙ sym r.2.3)

-- there is an index where some element passes
pub index_there : {X : Type 0} (p : X → Bool) (k : ℕ) (xs : List X) → is_some (position_from p k xs) ≡ is_some (find p xs)
index_there p k [] = refl
index_there p k (x ∷ xs) = pick (index_there p (k + 1) xs) (p x)
  where
    pick : is_some (position_from p (k + 1) xs) ≡ is_some (find p xs) → (b : Bool) → is_some (cond b (Some k) (position_from p (k + 1) xs)) ≡ is_some (cond b (Some x) (find p xs))
    pick rest true = refl
    pick rest false = rest

pub none_from_test : {X : Type 0} (o : Option X) → is_some o ≡ false → o ≡ None
none_from_test None e = refl
none_from_test (Some x) e = absurd (cc (e))

pub index_nowhere : {X : Type 0} (p : X → Bool) (xs : List X) → position_from p 0 xs ≡ None → find p xs ≡ None
index_nowhere p xs e = none_from_test (find p xs) (sym (index_there p 0 xs) ∙ ap is_some e)

pub index_map : {X Y : Type 0} (f : X → Y) (p : Y → Bool) (k : ℕ) (xs : List X) → position_from p k (map f xs) ≡ position_from (λ x. p (f x)) k xs
index_map f p k [] = refl
index_map f p k (x ∷ xs) = ap (cond (p (f x)) (Some k)) (index_map f p (k + 1) xs)

-- counted from one more
pub index_later : {X : Type 0} (p : X → Bool) (k : ℕ) (xs : List X) → position_from p (k + 1) xs ≡ option_map (λ i. i + 1) (position_from p k xs)
index_later p k [] = refl
index_later p k (x ∷ xs) = pick (index_later p (k + 1) xs) (p x)
  where
    pick : position_from p (k + 1 + 1) xs ≡ option_map (λ i. i + 1) (position_from p (k + 1) xs) → (b : Bool)
        → cond b (Some (k + 1)) (position_from p (k + 1 + 1) xs) ≡ option_map (λ i. i + 1) (cond b (Some k) (position_from p (k + 1) xs))
    pick rest true = refl
    pick rest false = rest
