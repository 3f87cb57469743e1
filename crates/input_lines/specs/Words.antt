-- The words of a line.
use Rattle.std.specs.Prelude.{◌≡◌, ℕ, ◌<◌, List, [], ◌∷◌, ◌++◌, length, map}
use Rattle.std.specs.List.{AllByRecursion}
use denote.Ref.{Bor}
use Rattle.units.specs.Block.{raw_text}
use Rattle.units.specs.Limits.{too_long}
use Rattle.units.specs.Text.{IsFreeOf}
use Rattle.units.specs.declared.block.RawBlock.{RawBlock}

-- the words with one space between them
abbrev pub spaced : List (List ℕ) → List ℕ
spaced [] = []
spaced (w ∷ []) = w
spaced (w ∷ v ∷ ws) = w ++ 32 ∷ spaced (v ∷ ws)

-- the line is one word or more with one space between them, and no word has a space in it
pub record AreCut (line : List ℕ) (words : List (List ℕ)) : Type 0 where
  pub some : 0 < length words
  pub spelled : line ≡ spaced words
  pub free : AllByRecursion (IsFreeOf 32) words

-- the texts of borrowed words
abbrev pub texts : List (Bor (List ℕ)) → List (List ℕ)
texts words = map (λ w. w.now) words

-- ---- what the code follows; no public contract cites what stands below

-- a block whose numbers have at most `most_digits` digits
abbrev pub IsShort : RawBlock → Type 0
IsShort b = (b.first < too_long) × (b.last < too_long)

-- the words write the blocks, one each
pub record AreBlocks (words : List (List ℕ)) (blocks : List RawBlock) : Type 0 where
  pub spelled : words ≡ map raw_text blocks
  pub short : AllByRecursion IsShort blocks
