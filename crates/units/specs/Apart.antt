-- Blocks that share no unit.
use Rattle.std.specs.Prelude.{List, [], ◌∷◌, IsTrue}
use Rattle.std.specs.List.{AllByRecursion}
use Rattle.units.specs.Unit.{has_unit}
use Rattle.units.specs.declared.block.Block.{Block}
use Rattle.units.specs.declared.block.RawBlock.{RawBlock}
use Rattle.units.specs.declared.block.Unit.{Unit as Serial}

-- the relation holds between each element and each later one
abbrev pub Pairwise : {X : Type 0} → (X → X → Type 0) → List X → Type 0
Pairwise R [] = Unit {0}
Pairwise R (x ∷ xs) = AllByRecursion (R x) xs × Pairwise R xs

-- no unit is in both blocks, regardless of their kinds
abbrev pub AreApart : RawBlock → RawBlock → Type 0
AreApart a b = (s : Serial) → IsTrue (has_unit a s) → IsTrue (has_unit b s) → ⊥

-- no unit is in two of the blocks
abbrev pub AllApart : List Block → Type 0
AllApart blocks = Pairwise (λ a b. AreApart a.raw b.raw) blocks
