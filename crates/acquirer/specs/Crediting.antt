-- The contents that an acquirer may credit.
use Rattle.std.specs.Prelude.{◌≡◌, true, List, None}
use Rattle.std.specs.FinMap as map
use Rattle.units.specs.Apart.{AllApart}
use Rattle.units.specs.Unit.{have_unit}
use Rattle.units.specs.declared.block.Block.{Block}
use Rattle.units.specs.declared.block.Unit.{Unit as Serial}
use Rattle.status.specs.Content.{Content, raws}
use Rattle.accounts.specs.Holdings.{HoldingsView}
use Rattle.accounts.specs.Refusals.{IsOpen}

-- the account is open, no unit is in two of the blocks, and none is held
pub record MayCredit (held : HoldingsView) (k : Content) : Type 0 where
  pub open_account : IsOpen held k.to_account
  pub apart : (blocks : List Block) → raws blocks ≡ k.units → AllApart blocks
  pub absent : (s : Serial) → have_unit k.units s ≡ true → map.get held.unit_holdings s ≡ None
