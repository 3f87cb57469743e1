-- The accounts by their numbers, and the statuses that they mean.
use Rattle.std.specs.Prelude.{ℕ, map}
use Rattle.std.specs.BTreeMap.{BTreeMap}
use Rattle.std.specs.FinMap.{FinMap, from_entries}
use Rattle.std.specs.Ordering.{nat_cmp}
use Rattle.accounts.specs.declared.account.Account.{Account}
use Rattle.accounts.specs.declared.unit_holding.AccountStatus.{AccountStatus}
use Rattle.accounts.specs.declared.unit_holding.AccountStatus.TheVariants.{Open}

-- the status of each number
unfoldable pub account_statuses : BTreeMap ℕ Account → FinMap nat_cmp AccountStatus
account_statuses accounts = from_entries (map (λ e. (e.0, e.1.account_status)) accounts.entries)

-- ---- what the code follows; no public contract cites what stands below

-- an open account that holds nothing
abbrev pub opened : Account
opened = record { account_status = Open; held = 0; free = 0 }

-- the account with the status
abbrev pub with_account_status : AccountStatus → Account → Account
with_account_status account_status a = record a { account_status = account_status }
