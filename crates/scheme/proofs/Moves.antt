-- Properties of a list that hold in any other order of its elements.
use Rattle.std.proofs.Common.{ℕ, zero, suc, ◌<◌, List, [], ◌∷◌, ◌++◌, length, get_or, sym, subst, arith, append_assoc}
use Rattle.std.specs.Prelude.{IsPermutation}
use Rattle.std.specs.List.{swap}
use Rattle.std.proofs.Math.ListN.{set}
use Rattle.std.proofs.lemmas.List.Edits.{swap_is}
use Rattle.std.proofs.lemmas.List.Sorted.{IsPermutation-keeps}
use Rattle.units.specs.Apart.{Pairwise}
use Rattle.scheme.proofs.Pairs.{neighbours_turn}

-- a property that holds still where two neighbours change places holds in each order
module _ {X : Type 0} (P : List X → Type 0) (turn : (xs : List X) (x y : X) (ys : List X) → P (xs ++ x ∷ y ∷ ys) → P (xs ++ y ∷ x ∷ ys)) where
  shift : (xs : List X) (x : X) (ys : List X) → P (xs ++ x ∷ ys) → P ((xs ++ x ∷ []) ++ ys)
  shift xs x ys p = subst P (sym (append_assoc xs (x ∷ []) ys)) p

  unshift : (xs : List X) (x : X) (ys : List X) → P ((xs ++ x ∷ []) ++ ys) → P (xs ++ x ∷ ys)
  unshift xs x ys p = subst P (append_assoc xs (x ∷ []) ys) p

  right : (xs : List X) (x : X) (bs ys : List X) → P (xs ++ x ∷ (bs ++ ys)) → P (xs ++ (bs ++ x ∷ ys))
  right xs x [] ys p = p
  right xs x (b ∷ bs) ys p = unshift xs b (bs ++ x ∷ ys) (right (xs ++ b ∷ []) x bs ys (shift xs b (x ∷ (bs ++ ys)) (turn xs x b (bs ++ ys) p)))

  left : (xs : List X) (y : X) (bs ys : List X) → P (xs ++ (bs ++ y ∷ ys)) → P (xs ++ y ∷ (bs ++ ys))
  left xs y [] ys p = p
  left xs y (b ∷ bs) ys p = turn xs b y (bs ++ ys) (unshift xs b (y ∷ (bs ++ ys)) (left (xs ++ b ∷ []) y bs ys (shift xs b (bs ++ y ∷ ys) p)))

  exchange : (xs : List X) (x : X) (bs : List X) (y : X) (ys : List X) → P (xs ++ x ∷ (bs ++ y ∷ ys)) → P (xs ++ y ∷ (bs ++ x ∷ ys))
  exchange xs x bs y ys p =
      left xs y bs (x ∷ ys) (subst P (append_assoc xs bs (y ∷ x ∷ ys)) (turn (xs ++ bs) x y ys (subst P (sym (append_assoc xs bs (x ∷ y ∷ ys))) (right xs x bs (y ∷ ys) p))))

  first : (front bs l : List X) (x : X) (j : ℕ) (d : X) → j < length l → P (front ++ x ∷ (bs ++ l)) → P (front ++ get_or l j d ∷ (bs ++ set l j x))
  first front bs [] x j d lt p = absurd (omega arith)
  first front bs (y ∷ ys) x zero d lt p = exchange front x bs y ys p
  first front bs (y ∷ ys) x (suc j) d lt p =
      subst (λ (l : List X). P (front ++ get_or ys j d ∷ l)) (append_assoc bs (y ∷ []) (set ys j x))
      (first front (bs ++ y ∷ []) ys x j d (omega arith) (subst (λ (l : List X). P (front ++ x ∷ l)) (sym (append_assoc bs (y ∷ []) ys)) p))

  swapped : (front l : List X) (i j : ℕ) (d : X) → i < length l → j < length l → P (front ++ l) → P (front ++ set (set l i (get_or l j d)) j (get_or l i d))
  swapped front [] i j d p q h = absurd (omega arith)
  swapped front (x ∷ l) zero zero d p q h = h
  swapped front (x ∷ l) zero (suc j) d p q h = first front [] l x j d (omega arith) h
  swapped front (x ∷ l) (suc i) zero d p q h = first front [] l x i d (omega arith) h
  swapped front (x ∷ l) (suc i) (suc j) d p q h =
      unshift front x (set (set l i (get_or l j d)) j (get_or l i d)) (swapped (front ++ x ∷ []) l i j d (omega arith) (omega arith) (shift front x l h))

  step : (l : List X) (i j : ℕ) → i < length l → j < length l → P l → P (swap l i j)
  step [] i j p q h = absurd (omega arith)
  step (d ∷ l) i j p q h = subst P (swap_is (d ∷ l) i j d p q) (swapped [] (d ∷ l) i j d p q h)

  pub moved : (xs ys : List X) → IsPermutation xs ys → P xs → P ys
  moved xs ys s p = IsPermutation-keeps xs P p step ys s

pub pairs_moved : {X : Type 0} (R : X → X → Type 0) → ((x y : X) → R x y → R y x) → (xs ys : List X) → IsPermutation xs ys → Pairwise R xs → Pairwise R ys
pairs_moved R turns xs ys s p = moved (Pairwise R) (neighbours_turn R turns) xs ys s p
