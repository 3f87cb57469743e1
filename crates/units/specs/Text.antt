-- Small texts: numbers, and pieces of a text.
use Rattle.std.specs.Prelude.{◌≡◌, ℕ, ◌<◌, List, decimal}
use Rattle.std.specs.List.{AllByRecursion}
use Rattle.units.specs.Limits.{too_long}

-- digits without leading zeros, at most `most_digits` of them
abbrev pub IsNumberText : List ℕ → ℕ → Type 0
IsNumberText text n = (text ≡ decimal n) × (n < too_long)

-- the byte isn't in the text
abbrev pub IsFreeOf : ℕ → List ℕ → Type 0
IsFreeOf byte text = AllByRecursion (λ b. b ≡ byte → ⊥) text
