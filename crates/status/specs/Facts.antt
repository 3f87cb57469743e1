-- The fact that identifiers carry.
use Rattle.std.specs.Prelude.{ℕ, ◌≤◌}
use Rattle.units.specs.Limits.{last_transaction}

-- a registry's number of a transaction
abbrev pub IsTransactionNumber : ℕ → Type 0
IsTransactionNumber n = (1 ≤ n) × (n ≤ last_transaction)
