-- The texts of blocks.
use Rattle.std.specs.Prelude.{◌≡◌, ℕ, ◌<◌, List, ◌∷◌, ◌++◌, decimal, codes}
use Rattle.units.specs.Code.{code_text}
use Rattle.units.specs.Limits.{too_long}
use Rattle.units.specs.declared.block.RawBlock.{RawBlock}
use Rattle.units.specs.declared.block.Period.{Period}
use Rattle.units.specs.declared.block.Period.TheVariants.{First, Second}
use Rattle.units.specs.declared.block.Kind.{Kind}
use Rattle.units.specs.declared.block.Kind.TheVariants.{Aau, Rmu, Eru, Cer, Tcer, Lcer}

abbrev pub period_text : Period → List ℕ
period_text First = codes "1"
period_text Second = codes "2"

abbrev pub kind_text : Kind → List ℕ
kind_text Aau = codes "AAU"
kind_text Rmu = codes "RMU"
kind_text Eru = codes "ERU"
kind_text Cer = codes "CER"
kind_text Tcer = codes "tCER"
kind_text Lcer = codes "lCER"

-- FIRST-LAST:KIND
abbrev pub numbers_text : ℕ → ℕ → Kind → List ℕ
numbers_text first last kind = decimal first ++ 45 ∷ (decimal last ++ 58 ∷ kind_text kind)

-- CODE:PERIOD:FIRST-LAST:KIND
abbrev pub raw_text : RawBlock → List ℕ
raw_text r = code_text r.origin ++ 58 ∷ (period_text r.period ++ 58 ∷ numbers_text r.first r.last r.kind)

-- the text writes the block, whose numbers have at most `most_digits` digits
pub record IsRawText (text : List ℕ) (r : RawBlock) : Type 0 where
  pub spelled : text ≡ raw_text r
  pub first : r.first < too_long
  pub last : r.last < too_long

-- ---- what the code follows; no public contract cites what stands below

-- the text writes the numbers and the kind of a block
pub record AreNumbers (text : List ℕ) (first last : ℕ) (kind : Kind) : Type 0 where
  pub spelled : text ≡ numbers_text first last kind
  pub first_fits : first < too_long
  pub last_fits : last < too_long
