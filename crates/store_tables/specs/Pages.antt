-- The rows and bodies that are read of a stretch of places.
use Rattle.std.specs.Prelude.{◌+◌, ◌==◌, ◌&&◌, cond, nat_le, ℕ, Bool, List, [], ◌∷◌, map, filter}
use Rattle.sqlite.specs.Order.{Row, column, bytes}
use Rattle.store_tables.specs.Slots.{place_of}

abbrev pub is_within : ℕ → ℕ → Row → Bool
is_within first last row = nat_le first (place_of row) && nat_le (place_of row) last

-- a row of entries as the query returns it: its place and its body
abbrev pub shown : Row → Row
shown row = column row 0 ∷ column row 2 ∷ []

-- the entries from a first place to a last one, in their order
abbrev pub rows_within : ℕ → ℕ → List Row → List Row
rows_within first last rows = map shown (filter (is_within first last) rows)

-- the bodies of returned rows, up to the first row that isn't at the next place
abbrev pub bodies_from : ℕ → List Row → List (List ℕ)
bodies_from at [] = []
bodies_from at (row ∷ rows) = cond (place_of row == at) (bytes (column row 1) ∷ bodies_from (at + 1) rows) []
