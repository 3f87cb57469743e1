-- The places of a list of stored rows: each has a body, or is missing.
use Rattle.std.specs.Prelude.{◌≡◌, ◌≤◌, ◌+◌, ◌-◌, ℕ, zero, suc, pos, List, [], ◌∷◌, ◌++◌, Option, Some, None}
use Rattle.sqlite.specs.declared.types.Value.{Value}
use Rattle.sqlite.specs.declared.types.Value.TheVariants.{Int}
use Rattle.sqlite.specs.Order.{Row, column, bytes}
use Rattle.store_tables.specs.Tables.{entry}

abbrev pub whole_number : Value → ℕ
whole_number (Int (pos n)) = n
whole_number _ = 0

abbrev pub place_of : Row → ℕ
place_of row = whole_number (column row 0)

abbrev pub body_of : Row → List ℕ
body_of row = bytes (column row 2)

-- that number of places without a body
abbrev pub missing : ℕ → List (Option (List ℕ))
missing zero = []
missing (suc n) = None ∷ missing n

-- the bodies by their places, from a place on
abbrev pub slots_from : ℕ → List Row → List (Option (List ℕ))
slots_from place [] = []
slots_from place (row ∷ rows) = missing (place_of row - place) ++ Some (body_of row) ∷ slots_from (place_of row + 1) rows

-- rows of entries in ascending order of their places, from a place on
abbrev pub AreEntries : ℕ → List Row → Type 0
AreEntries place [] = Unit {0}
AreEntries place (row ∷ rows) = (place ≤ place_of row) × (row ≡ entry (place_of row) (body_of row)) × AreEntries (place_of row + 1) rows
