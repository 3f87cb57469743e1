-- The parts of an order to transfer units.
use Rattle.std.specs.Prelude.{ℕ, ◌<◌, ◌==◌, ◌&&◌, Bool, List}
use Rattle.std.specs.List.{AllByRecursion}
use Rattle.units.specs.Code.{same_code}
use Rattle.units.specs.Limits.{too_long}
use Rattle.units.specs.declared.block.RawBlock.{RawBlock}
use Rattle.units.specs.declared.code.Code.{Code}
use Rattle.status.specs.Content.{same_blocks}

pub record Order : Type 0 where
  pub account : ℕ
  pub acquirer : Code
  pub to_account : ℕ
  pub units : List RawBlock

-- numbers of at most `most_digits` digits; nothing else is checked
pub record IsOrder (o : Order) : Type 0 where
  pub account : o.account < too_long
  pub to_account : o.to_account < too_long
  pub units : AllByRecursion (λ b. (b.first < too_long) × (b.last < too_long)) o.units

-- blocks compared as lists
abbrev pub same_order : Order → Order → Bool
same_order a b = (a.account == b.account) && (same_code a.acquirer b.acquirer && ((a.to_account == b.to_account) && same_blocks a.units b.units))
