-- The limits that every crate keeps, each stated once: the twins of the constants in src/limits.rt.
use Rattle.std.specs.Prelude.{ℕ, ◌^◌}

-- the greatest number of a unit
abbrev pub last_unit : ℕ
last_unit = 999_999_999_999_999

-- the greatest number of a unit in the first format of a journal's records
abbrev pub last_unit_of_format_one : ℕ
last_unit_of_format_one = 999_999_999_999

-- the greatest number of an account
abbrev pub last_account : ℕ
last_account = 999_999_999

-- the greatest number that a registry gives a transaction
abbrev pub last_transaction : ℕ
last_transaction = 999_999

-- the greatest number of blocks of a proposal
abbrev pub most_blocks : ℕ
most_blocks = 16

-- the greatest number of records of a node's journal
abbrev pub most_records : ℕ
most_records = 1_000_000

-- the age, in seconds, from which the log may clean a transaction up
abbrev pub clean_up_age : ℕ
clean_up_age = 86_400

-- the greatest number of bytes of the line of a message or of a reply, without its newline
abbrev pub longest_line : ℕ
longest_line = 8_192

-- the least number of registries of a scheme
abbrev pub least_registries : ℕ
least_registries = 2

-- the greatest number of registries of a scheme
abbrev pub most_registries : ℕ
most_registries = 32

-- the greatest number of accounts of a registry of a scheme
abbrev pub most_accounts : ℕ
most_accounts = 1_000

-- the greatest number of blocks that a scheme may allot
abbrev pub most_allotted : ℕ
most_allotted = 10_000

-- the last moment, in seconds since 1970-01-01T00:00:00Z: 9998-12-31T23:59:59Z
abbrev pub last_moment : ℕ
last_moment = 253_370_764_799

-- the greatest number of decimal digits of a number in a message, a record or an order
abbrev pub most_digits : ℕ
most_digits = 18

-- the first number that has more digits
abbrev pub too_long : ℕ
too_long = 10 ^ most_digits
