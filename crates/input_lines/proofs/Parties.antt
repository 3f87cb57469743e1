-- The words before the blocks of an order.
use Rattle.std.proofs.Common.{◌≡◌, ℕ, ◌<◌, List, ◌∷◌, sym, ◌∙◌}
use Rattle.std.specs.Fmt.{decimal}
use Rattle.units.specs.Code.{code_text}
use Rattle.units.specs.Limits.{too_long}
use Rattle.units.specs.declared.code.Code.{Code}

words_after : {X : Type 0} (words : List X) (a b : X) (xs ys : List X) → words ≡ a ∷ xs → words ≡ b ∷ ys → xs ≡ ys
words_after words a b xs ys e f = let same : a ∷ xs ≡ b ∷ ys = sym e ∙ f in cc (same)

-- the third word is no number
pub no_third : (words second third : List (List ℕ)) (a b : List ℕ) → words ≡ a ∷ second → second ≡ b ∷ third
    → ((k : ℕ) (others : List (List ℕ)) → k < too_long → third ≡ decimal k ∷ others → ⊥)
    → (j : ℕ) (c : Code) (k : ℕ) (others : List (List ℕ)) → j < too_long → k < too_long → words ≡ decimal j ∷ code_text c ∷ decimal k ∷ others → ⊥
no_third words second third a b e f never j c k others low short h =
    let one = words_after words a (decimal j) second (code_text c ∷ decimal k ∷ others) e h in
    never k others short (words_after second b (code_text c) third (decimal k ∷ others) f one)
