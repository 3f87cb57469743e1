-- Lines with their numbers, with one line more.
use Rattle.std.proofs.Common.{◌≡◌, ℕ, suc, ◌+◌, List, [], ◌∷◌, ◌++◌, length, sym, ap, ◌∙◌, arith, append_assoc, append-nil}

module _ {X : Type 0} (line : ℕ → X → List ℕ) (lines : ℕ → List X → List ℕ) (none : (n : ℕ) → lines n [] ≡ []) (some : (n : ℕ) (x : X) (xs : List X) → lines n (x ∷ xs) ≡ line n x ++ lines (n + 1) xs) where
  pub lines_more : (n : ℕ) (xs : List X) (x : X) → lines n (xs ++ x ∷ []) ≡ lines n xs ++ line (n + length xs) x
  lines_more n [] x =
      let same : n ≡ n + 0 = omega arith in
      some n x [] ∙ ap (λ (l : List ℕ). line n x ++ l) (none (n + 1)) ∙ append-nil (line n x) ∙ ap (λ (k : ℕ). line k x) same ∙ sym (ap (λ (l : List ℕ). l ++ line (n + 0) x) (none n))
  lines_more n (y ∷ xs) x =
      let rest = lines_more (n + 1) xs x in
      let same : n + 1 + length xs ≡ n + suc (length xs) = omega arith in
      some n y (xs ++ x ∷ []) ∙ ap (λ (l : List ℕ). line n y ++ l) rest
      ∙ sym (append_assoc (line n y) (lines (n + 1) xs) (line (n + 1 + length xs) x))
      ∙ ap (λ (k : ℕ). (line n y ++ lines (n + 1) xs) ++ line k x) same
      ∙ sym (ap (λ (l : List ℕ). l ++ line (n + suc (length xs)) x) (some n y xs))
