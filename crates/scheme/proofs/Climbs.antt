-- Lists that rise by a transitive relation: from neighbours to all elements, and that the elements determine the order.
use Rattle.std.proofs.Common.{◌≡◌, ℕ, zero, suc, ◌+◌, ◌<◌, List, [], ◌∷◌, length, get_or, refl, sym, subst, ◌∙◌, arith, ◌⊎◌, inl, inr}
use Rattle.std.specs.List.{AllAdjacentBelow, Contains}
use Rattle.std.proofs.lemmas.List.Elements.{All-from_recursion, All-contains}
use Rattle.units.specs.Apart.{Pairwise}
use Rattle.scheme.proofs.Pairs.{each_weaker}

head_or_rest : {X : Type 0} (x : X) (xs : List X) (z : X) → Contains (x ∷ xs) z → (x ≡ z) ⊎ Contains xs z
head_or_rest x xs z has = go has.0 has.1 has.2
  where
    go : (k : ℕ) → k < length (x ∷ xs) → get_or (x ∷ xs) k z ≡ z → (x ≡ z) ⊎ Contains xs z
    go zero lt is = inl is
    go (suc k) lt is = inr (k, (omega arith), is)

module _ {X : Type 0} (R : X → X → Type 0) (transitive : (x y z : X) → R x y → R y z → R x z) where
  abbrev Climbs : List X → Type 0
  Climbs xs = AllAdjacentBelow R xs (length xs)

  rest : (x : X) (xs : List X) → Climbs (x ∷ xs) → Climbs xs
  rest x xs climbs k d lt =
      let e : suc k + 1 ≡ suc (k + 1) = omega arith in
      subst (λ (n : ℕ). R (get_or xs k d) (get_or (x ∷ xs) n d)) e (climbs (suc k) d (omega arith))

  pub all_from_neighbours : (xs : List X) → Climbs xs → Pairwise R xs
  all_from_neighbours [] climbs = tt
  all_from_neighbours (x ∷ []) climbs = (tt, tt)
  all_from_neighbours (x ∷ y ∷ ys) climbs =
      let later = all_from_neighbours (y ∷ ys) (rest x (y ∷ ys) climbs) in
      let next : R x y = climbs 0 x (omega arith) in
      ((next, each_weaker (R y) (R x) (λ z after. transitive x y z next after) ys later.0), later)

  -- two rising lists with the same elements
  module _ (irreflexive : (x : X) → R x x → ⊥) where
    higher : (x : X) (xs : List X) (z : X) → Pairwise R (x ∷ xs) → Contains xs z → R x z
    higher x xs z rise has = All-contains (R x) xs z (All-from_recursion (R x) xs rise.0) has

    same_head : (x : X) (xs : List X) (y : X) (ys : List X) → Pairwise R (x ∷ xs) → Pairwise R (y ∷ ys) → Contains (y ∷ ys) x → Contains (x ∷ xs) y → x ≡ y
    same_head x xs y ys p q there back = elim (head_or_rest y ys x there) [
      | inl e ↦ sym e
      | inr later ↦ elim (head_or_rest x xs y back) [
        | inl e ↦ e
        | inr behind ↦ absurd (irreflexive x (transitive x y x (higher x xs y p behind) (higher y ys x q later)))
      ]
    ]

    rest_has : (x : X) (xs : List X) (y : X) (ys : List X) → Pairwise R (x ∷ xs) → x ≡ y → ((z : X) → Contains (x ∷ xs) z → Contains (y ∷ ys) z) → (z : X) → Contains xs z → Contains ys z
    rest_has x xs y ys p e there z has = elim (head_or_rest y ys z (there z (suc has.0, (omega arith), has.2))) [
      | inl same ↦ absurd (irreflexive x (subst (R x) (sym (e ∙ same)) (higher x xs z p has)))
      | inr in_rest ↦ in_rest
    ]

    pub one_order : (xs ys : List X) → Pairwise R xs → Pairwise R ys → ((z : X) → Contains xs z → Contains ys z) → ((z : X) → Contains ys z → Contains xs z) → xs ≡ ys
    one_order [] [] p q there back = refl
    one_order [] (y ∷ ys) p q there back = let has = back y (0, (omega arith), refl) in let lt = has.1 in absurd (omega arith)
    one_order (x ∷ xs) [] p q there back = let has = there x (0, (omega arith), refl) in let lt = has.1 in absurd (omega arith)
    one_order (x ∷ xs) (y ∷ ys) p q there back =
        let e = same_head x xs y ys p q (there x (0, (omega arith), refl)) (back y (0, (omega arith), refl)) in
        let f = one_order xs ys p.1 q.1 (rest_has x xs y ys p e there) (rest_has y ys x xs q (sym e) back) in
        cc (e, f)
