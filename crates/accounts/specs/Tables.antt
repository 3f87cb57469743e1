-- The tables that holdings have beside their unit holdings: each account's counts, and each transaction's reservation.
-- No public contract cites it.
use Rattle.std.specs.Prelude.{◌≡◌, ℕ, ◌+◌, ◌-◌, ◌≤◌, cond, List, [], Bool, false, ◌==◌, ◌&&◌, Option, Some, None, IsSome, count_by}
use Rattle.std.specs.BTreeMap as tree
use Rattle.std.specs.BTreeMap.{BTreeMap}
use Rattle.std.specs.FinMap as map
use Rattle.std.specs.List.{sum_by}
use Rattle.std.specs.Option.{option_map_or}
use Rattle.std.specs.Ordering.{nat_cmp}
use Rattle.units.specs.Apart.{AllApart}
use Rattle.units.specs.Canonical.{interval_of}
use Rattle.units.specs.Intervals.{size}
use Rattle.units.specs.Keys.{unit_cmp}
use Rattle.units.specs.Limits.{last_unit}
use Rattle.units.specs.Unit.{covers}
use Rattle.units.specs.declared.block.Block.{Block}
use Rattle.units.specs.declared.block.Kind.{Kind}
use Rattle.units.specs.declared.block.Unit.{Unit as Serial}
use Rattle.status.specs.Id.{id_cmp}
use Rattle.status.specs.declared.id.TransactionId.{TransactionId}
use Rattle.accounts.specs.Holdings.{is_free_in, is_reserved_by}
use Rattle.accounts.specs.declared.account.Account.{Account}
use Rattle.accounts.specs.declared.unit_holding.UnitHolding.{UnitHolding}
use Rattle.accounts.specs.declared.reservation.Reservation.{Reservation}
use Rattle.accounts.specs.declared.reservation.Share.{Share}

-- the number of units of an account, by the table; an account that isn't there has none
abbrev pub held_in : Option Account → ℕ
held_in account = option_map_or (λ a. a.held) account 0

abbrev pub held_at : BTreeMap ℕ Account → ℕ → ℕ
held_at accounts number = held_in (tree.get nat_cmp accounts number)

-- the number of those that are free
abbrev pub free_in : Option Account → ℕ
free_in account = option_map_or (λ a. a.free) account 0

abbrev pub free_at : BTreeMap ℕ Account → ℕ → ℕ
free_at accounts number = free_in (tree.get nat_cmp accounts number)

-- the account with `count` more units, all free
abbrev pub with_units : ℕ → Account → Account
with_units count a = record { account_status = a.account_status; held = a.held + count; free = a.free + count }

-- the account with `count` fewer free units
abbrev pub with_fewer_free : ℕ → Account → Account
with_fewer_free count a = record a { free = a.free - count }

-- the account with `count` more free units
abbrev pub with_more_free : ℕ → Account → Account
with_more_free count a = record a { free = a.free + count }

-- the account with `count` fewer units, none of them free
abbrev pub with_fewer : ℕ → Account → Account
with_fewer count a = record a { held = a.held - count }

-- the number of units of the blocks, where none is in two of them
abbrev pub units_in : List Block → ℕ
units_in blocks = sum_by (λ b. size (interval_of b)) blocks

-- the number of units of the account in the shares
abbrev pub share_of : List Share → ℕ → ℕ
share_of shares account = sum_by (λ s. cond (s.account == account) s.count 0) shares

-- the blocks that a transaction reserves; without a reservation, none
abbrev pub blocks_in : Option Reservation → List Block
blocks_in reservation = option_map_or (λ r. r.blocks.items) reservation []

abbrev pub blocks_of : BTreeMap TransactionId Reservation → TransactionId → List Block
blocks_of reservations id = blocks_in (tree.get id_cmp reservations id)

-- the number of units that it reserves in each account
abbrev pub shares_in : Option Reservation → List Share
shares_in reservation = option_map_or (λ r. r.shares.items) reservation []

abbrev pub shares_of : BTreeMap TransactionId Reservation → TransactionId → List Share
shares_of reservations id = shares_in (tree.get id_cmp reservations id)

-- held in the account, of the kind, and reserved by that transaction or by none
abbrev pub unit_holding_in : ℕ → Option TransactionId → Kind → UnitHolding
unit_holding_in account reserving kind = record { account = account; kind = kind; reserving = reserving }

abbrev pub UnitHoldings : Type 0
UnitHoldings = map.FinMap unit_cmp UnitHolding

-- in the account
abbrev pub is_in : ℕ → UnitHolding → Bool
is_in account unit_holding = unit_holding.account == account

-- in the account, and reserved by the transaction
abbrev pub is_share : ℕ → TransactionId → UnitHolding → Bool
is_share account id unit_holding = unit_holding.account == account && is_reserved_by id unit_holding

-- each account's counts are those of its units
pub record AreCounted (accounts : BTreeMap ℕ Account) (unit_holdings : UnitHoldings) : Type 0 where
  pub held : (n : ℕ) → held_at accounts n ≡ count_by (λ e. is_in n e.1) (map.entries unit_holdings)
  pub free : (n : ℕ) → free_at accounts n ≡ count_by (λ e. is_free_in n e.1) (map.entries unit_holdings)

-- the unit is held, and the transaction reserves it
abbrev pub reserves : TransactionId → Option UnitHolding → Bool
reserves id None = false
reserves id (Some unit_holding) = is_reserved_by id unit_holding

-- the blocks have the units that the transaction reserves, each in one block, and the shares have the number of them in
-- each account
pub record IsListed (unit_holdings : UnitHoldings) (id : TransactionId) (blocks : List Block) (shares : List Share) : Type 0 where
  pub exact : (s : Serial) → reserves id (map.get unit_holdings s) ≡ covers blocks s
  pub apart : AllApart blocks
  pub shared : (n : ℕ) → share_of shares n ≡ count_by (λ e. is_share n id e.1) (map.entries unit_holdings)

-- the numbers of units are in range
abbrev pub AreInRange : UnitHoldings → Type 0
AreInRange unit_holdings = (s : Serial) → IsSome (map.get unit_holdings s) → s.number ≤ last_unit

-- the tables are in step with the unit holdings
pub record AreInStep (accounts : BTreeMap ℕ Account) (unit_holdings : UnitHoldings) (reservations : BTreeMap TransactionId Reservation) : Type 0 where
  pub counted : AreCounted accounts unit_holdings
  pub listed : (id : TransactionId) → IsListed unit_holdings id (blocks_of reservations id) (shares_of reservations id)
  pub in_range : AreInRange unit_holdings
