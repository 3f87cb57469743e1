-- The number of times that a line may ask.
use Rattle.std.proofs.Common.{◌≡◌, ◌≤◌, ◌<◌, ◌∙◌, ◌^◌, ℕ, List, [], ◌∷◌, decimal, sym, arith}
use Rattle.units.proofs.OneText.{number_same}
use Rattle.input_lines.specs.Instructions.{most_turns}

-- one word writes one number of turns
pub no_turns : (words : List (List ℕ)) (word : List ℕ) (m : ℕ) → words ≡ word ∷ [] → word ≡ decimal m → m < 10 ^ 18 → ((1 ≤ m) × (m ≤ most_turns) → ⊥) → (n : ℕ) → 1 ≤ n → n ≤ most_turns → words ≡ decimal n ∷ [] → ⊥
no_turns words word m is spelled short never n low high same =
    let heads : word ∷ [] ≡ decimal n ∷ [] = sym is ∙ same in
    let texts : word ≡ decimal n = cc (heads) in
    let e : m ≡ n = number_same m n short (omega arith) (sym spelled ∙ texts) in
    never (omega (arith, e, low), omega (arith, e, high))
