-- The content of a transfer. Its identifier isn't a part of it; the code of the identifier is the initiator.
use Rattle.std.specs.Prelude.{ℕ, ◌≤◌, ◌==◌, ◌&&◌, List, length, map, Bool}
use lib.Pointwise.{pointwise}
use Rattle.std.specs.List.{AllByRecursion}
use Rattle.units.specs.Code.{same_code}
use Rattle.units.specs.Facts.{IsRange}
use Rattle.units.specs.Limits.{most_blocks}
use Rattle.units.specs.Unit.{same_raw}
use Rattle.units.specs.declared.block.Block.{Block}
use Rattle.units.specs.declared.block.RawBlock.{RawBlock}
use Rattle.units.specs.declared.code.Code.{Code}
use Rattle.units.specs.Facts.{IsAccountNumber}

pub record Content : Type 0 where
  -- the initiator's account, which the units leave
  pub account : ℕ
  pub acquirer : Code
  -- the acquirer's account, which the units go to
  pub to_account : ℕ
  pub units : List RawBlock

-- accounts in range, and 1 to `most_blocks` blocks whose numbers are in range
pub record IsContent (c : Content) : Type 0 where
  pub account : IsAccountNumber c.account
  pub to_account : IsAccountNumber c.to_account
  pub some_units : 1 ≤ length c.units
  pub few_units : length c.units ≤ most_blocks
  pub in_range : AllByRecursion (λ b. IsRange b.first b.last) c.units

-- the blocks without the proofs that they carry
abbrev pub raws : List Block → List RawBlock
raws blocks = map (λ b. b.raw) blocks

abbrev pub same_blocks : List RawBlock → List RawBlock → Bool
same_blocks xs ys = pointwise same_raw xs ys

-- blocks compared as lists
abbrev pub same_content : Content → Content → Bool
same_content a b = (a.account == b.account) && (same_code a.acquirer b.acquirer && ((a.to_account == b.to_account) && same_blocks a.units b.units))
