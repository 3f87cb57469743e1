-- Relations between each two elements of a list.
use Rattle.std.proofs.Common.{ℕ, zero, suc, ◌<◌, List, [], ◌∷◌, ◌++◌, length, get_or, refl, arith}
use Rattle.std.specs.List.{AllByRecursion, Contains}
use Rattle.std.proofs.lemmas.List.Elements.{All-from_recursion}
use Rattle.units.specs.Apart.{Pairwise}

module _ {X : Type 0} (P : X → Type 0) where
  pub each_append : (xs ys : List X) → AllByRecursion P xs → AllByRecursion P ys → AllByRecursion P (xs ++ ys)
  each_append [] ys p q = q
  each_append (x ∷ xs) ys p q = (p.0, each_append xs ys p.1 q)

  pub each_split : (xs ys : List X) → AllByRecursion P (xs ++ ys) → AllByRecursion P xs × AllByRecursion P ys
  each_split [] ys p = (tt, p)
  each_split (x ∷ xs) ys p = let r = each_split xs ys p.1 in ((p.0, r.0), r.1)

  pub each_weaker : (Q : X → Type 0) → ((x : X) → P x → Q x) → (xs : List X) → AllByRecursion P xs → AllByRecursion Q xs
  each_weaker Q f [] p = tt
  each_weaker Q f (x ∷ xs) p = (f x p.0, each_weaker Q f xs p.1)

  pub each_at : (xs : List X) (i : ℕ) (d : X) → i < length xs → AllByRecursion P xs → P (get_or xs i d)
  each_at xs i d lt p = All-from_recursion P xs p i d lt

module _ {X : Type 0} (R : X → X → Type 0) where
  pub pair_at : (xs : List X) (i j : ℕ) (d : X) → i < j → j < length xs → Pairwise R xs → R (get_or xs i d) (get_or xs j d)
  pair_at [] i j d lt within p = absurd (omega arith)
  pair_at (x ∷ xs) i zero d lt within p = absurd (omega arith)
  pair_at (x ∷ xs) zero (suc j) d lt within p = each_at (R x) xs j d (omega arith) p.0
  pair_at (x ∷ xs) (suc i) (suc j) d lt within p = pair_at xs i j d (omega arith) (omega arith) p.1

  pub pairwise_push : (xs : List X) (y : X) → Pairwise R xs → AllByRecursion (λ x. R x y) xs → Pairwise R (xs ++ y ∷ [])
  pairwise_push [] y p q = (tt, tt)
  pairwise_push (x ∷ xs) y p q = (each_append (R x) xs (y ∷ []) p.0 (q.0, tt), pairwise_push xs y p.1 q.1)

  pub pairwise_weaker : (S : X → X → Type 0) → ((x y : X) → R x y → S x y) → (xs : List X) → Pairwise R xs → Pairwise S xs
  pairwise_weaker S f [] p = tt
  pairwise_weaker S f (x ∷ xs) p = (each_weaker (R x) (S x) (f x) xs p.0, pairwise_weaker S f xs p.1)

  -- two neighbours change places
  pub neighbours_turn : ((x y : X) → R x y → R y x) → (xs : List X) (x y : X) (ys : List X) → Pairwise R (xs ++ x ∷ y ∷ ys) → Pairwise R (xs ++ y ∷ x ∷ ys)
  neighbours_turn sym_R [] x y ys p = ((sym_R x y p.0.0, p.1.0), (p.0.1, p.1.1))
  neighbours_turn sym_R (z ∷ zs) x y ys p =
      let front = each_split (R z) zs (x ∷ y ∷ ys) p.0 in
      (each_append (R z) zs (y ∷ x ∷ ys) front.0 (front.1.1.0, (front.1.0, front.1.1.1)), neighbours_turn sym_R zs x y ys p.1)

-- a property of each element that the list contains
pub each_contained : {X : Type 0} (P : X → Type 0) (xs : List X) → ((x : X) → Contains xs x → P x) → AllByRecursion P xs
each_contained P [] f = tt
each_contained P (x ∷ xs) f = (f x (0, (omega arith), refl), each_contained P xs (λ y has. f y (suc has.0, (omega arith), has.2)))
