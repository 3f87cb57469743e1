-- The facts that small values carry.
use Rattle.std.specs.Prelude.{ℕ, ◌≤◌}
use Rattle.units.specs.Limits.{last_unit, last_account}

-- a capital letter of ASCII, A to Z
abbrev pub IsLetter : ℕ → Type 0
IsLetter byte = (65 ≤ byte) × (byte ≤ 90)

-- the numbers of a block: 1 or more, in order, none above the greatest
abbrev pub IsRange : ℕ → ℕ → Type 0
IsRange first last = (1 ≤ first) × (first ≤ last) × (last ≤ last_unit)

-- an account's number
abbrev pub IsAccountNumber : ℕ → Type 0
IsAccountNumber n = (1 ≤ n) × (n ≤ last_account)
