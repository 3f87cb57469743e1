-- Why an order on accounts is refused: each check looks at all units before the next one does.
use Rattle.std.specs.Prelude.{◌≡◌, ◌⊎◌, ℕ, List, Some, None, IsTrue, IsSome}
use Rattle.std.specs.FinMap as map
use Rattle.std.specs.List.{IsAmong}
use Rattle.units.specs.RefusalCodes.{account_not_open, unit_not_held, unit_reserved, unknown_account, already_so, holds_units}
use Rattle.units.specs.Unit.{has_unit, covers}
use Rattle.units.specs.declared.block.Block.{Block}
use Rattle.units.specs.declared.block.Kind.{Kind}
use Rattle.units.specs.declared.block.Unit.{Unit as Serial}
use Rattle.accounts.specs.Holdings.{HoldingsView}
use Rattle.accounts.specs.declared.unit_holding.UnitHolding.{UnitHolding}
use Rattle.accounts.specs.declared.unit_holding.AccountStatus.TheVariants.{Open, Closed}

-- an account of the registry that is open
abbrev pub IsOpen : HoldingsView → ℕ → Type 0
IsOpen held account = map.get held.accounts account ≡ Some Open

-- the unit is held in that account with that kind
pub record IsHeldAs (held : HoldingsView) (account : ℕ) (kind : Kind) (unit : Serial) : Type 0 where
  pub unit_holding : UnitHolding
  pub is : map.get held.unit_holdings unit ≡ Some unit_holding
  pub account_is : unit_holding.account ≡ account
  pub kind_is : unit_holding.kind ≡ kind

-- a unit of one of the blocks
pub record IsUnitOf (blocks : List Block) (block : Block) (unit : Serial) : Type 0 where
  pub among : IsAmong blocks block
  pub has : IsTrue (has_unit block.raw unit)

-- each unit of each block is held in that account with the block's kind
abbrev pub AreHeld : HoldingsView → ℕ → List Block → Type 0
AreHeld held account blocks = (b : Block) (s : Serial) → IsUnitOf blocks b s → IsHeldAs held account b.raw.kind s

-- no unit of the blocks is reserved
abbrev pub AreFree : HoldingsView → List Block → Type 0
AreFree held blocks = (s : Serial) (unit_holding : UnitHolding) → IsTrue (covers blocks s) → map.get held.unit_holdings s ≡ Some unit_holding → unit_holding.reserving ≡ None

-- a unit of a block that isn't held in that account with that kind
pub record IsLacking (held : HoldingsView) (account : ℕ) (blocks : List Block) : Type 0 where
  pub block : Block
  pub unit : Serial
  pub of : IsUnitOf blocks block unit
  pub lacks : IsHeldAs held account block.raw.kind unit → ⊥

-- a unit of the blocks that is reserved
pub record IsReserved (held : HoldingsView) (blocks : List Block) : Type 0 where
  pub unit : Serial
  pub unit_holding : UnitHolding
  pub of : IsTrue (covers blocks unit)
  pub is : map.get held.unit_holdings unit ≡ Some unit_holding
  pub reserved : IsSome unit_holding.reserving

-- the units that may be reserved
pub record MayReserve (held : HoldingsView) (account : ℕ) (blocks : List Block) : Type 0 where
  pub open_account : IsOpen held account
  pub held_so : AreHeld held account blocks
  pub free : AreFree held blocks

-- the account isn't open; a unit isn't held in it with that kind; a unit is reserved
abbrev pub IsReserveRefusal : HoldingsView → ℕ → List Block → ℕ → Type 0
IsReserveRefusal held account blocks code =
    ((code ≡ account_not_open) × (IsOpen held account → ⊥))
    ⊎ (((code ≡ unit_not_held) × IsOpen held account × IsLacking held account blocks)
    ⊎ ((code ≡ unit_reserved) × IsOpen held account × AreHeld held account blocks × IsReserved held blocks))

-- the registry has no such account; it is open already
abbrev pub IsOpenRefusal : HoldingsView → ℕ → ℕ → Type 0
IsOpenRefusal held account code =
    ((code ≡ unknown_account) × (map.get held.accounts account ≡ None))
    ⊎ ((code ≡ already_so) × (map.get held.accounts account ≡ Some Open))

-- a unit in the account
pub record HasUnits (held : HoldingsView) (account : ℕ) : Type 0 where
  pub unit : Serial
  pub unit_holding : UnitHolding
  pub is : map.get held.unit_holdings unit ≡ Some unit_holding
  pub account_is : unit_holding.account ≡ account

-- the registry has no such account; it is closed already; it holds units
abbrev pub IsCloseRefusal : HoldingsView → ℕ → ℕ → Type 0
IsCloseRefusal held account code =
    ((code ≡ unknown_account) × (map.get held.accounts account ≡ None))
    ⊎ (((code ≡ already_so) × (map.get held.accounts account ≡ Some Closed))
    ⊎ ((code ≡ holds_units) × (map.get held.accounts account ≡ Some Open) × HasUnits held account))
