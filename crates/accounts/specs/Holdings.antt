-- The holdings of a registry: its accounts, and for each unit the account, the kind and the reserving transaction.
use Rattle.std.specs.Prelude.{ℕ, List, Bool, true, false, ◌&&◌, ◌==◌, Option, Some, None, option_map, is_none, if◌then◌else◌}
use Rattle.std.specs.FinMap as map
use Rattle.std.specs.Ordering.{nat_cmp}
use Rattle.std.specs.List.{find}
use Rattle.units.specs.Keys.{unit_cmp}
use Rattle.units.specs.Unit.{has_unit}
use Rattle.units.specs.declared.block.Block.{Block}
use Rattle.units.specs.declared.block.Kind.{Kind}
use Rattle.units.specs.declared.block.Unit.{Unit as Serial}
use Rattle.status.specs.Id.{same_id}
use Rattle.status.specs.declared.id.TransactionId.{TransactionId}
use Rattle.accounts.specs.declared.unit_holding.UnitHolding.{UnitHolding}
use Rattle.accounts.specs.declared.unit_holding.AccountStatus.{AccountStatus}
use Rattle.accounts.specs.declared.unit_holding.AccountStatus.TheVariants.{Open, Closed}

-- the accounts, each open or closed, and the holding of each unit that is held
pub record HoldingsView : Type 0 where
  pub accounts : map.FinMap nat_cmp AccountStatus
  pub unit_holdings : map.FinMap unit_cmp UnitHolding

-- held in the account, of the kind, and reserved by none
abbrev pub free_unit_holding : ℕ → Kind → UnitHolding
free_unit_holding account kind = record { account = account; kind = kind; reserving = None }

-- the transaction is the given one
abbrev pub is_the : TransactionId → Option TransactionId → Bool
is_the id None = false
is_the id (Some other) = same_id other id

-- the transaction reserves the unit holding
abbrev pub is_reserved_by : TransactionId → UnitHolding → Bool
is_reserved_by id unit_holding = is_the id unit_holding.reserving

-- the unit holding with that reserving transaction
abbrev pub reserved : TransactionId → UnitHolding → UnitHolding
reserved id unit_holding = record unit_holding { reserving = Some id }

-- the unit holding after the transaction has released it
abbrev pub released : TransactionId → UnitHolding → UnitHolding
released id unit_holding = if is_reserved_by id unit_holding then record unit_holding { reserving = None } else unit_holding

-- in the account, and reserved by none
abbrev pub is_free_in : ℕ → UnitHolding → Bool
is_free_in account unit_holding = unit_holding.account == account && is_none unit_holding.reserving

-- the kind that the first of the blocks with the unit gives it
abbrev pub kind_in : List Block → Serial → Option Kind
kind_in blocks unit = option_map (λ b. b.raw.kind) (find (λ b. has_unit b.raw unit) blocks)

-- an account with this status may take part in transfers
abbrev pub is_open : AccountStatus → Bool
is_open Open = true
is_open Closed = false
