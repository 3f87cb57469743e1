-- The values in the first row that a query returns.
use Rattle.std.specs.Prelude.{◌≡◌, ℕ, ℤ, pos, List, [], slice_get, Option, Some, None}
use Rattle.sqlite.specs.declared.types.Value.TheVariants.{Int, Text as Words}
use Rattle.sqlite.specs.Order.{Row, column}
use Rattle.wire.specs.Records.{number_of}
use Rattle.wire.specs.declared.record_format.RecordFormat.{RecordFormat}
use Rattle.store_tables.specs.declared.owner_row.FileOwner.{FileOwner}
use Rattle.store_tables.specs.declared.owner_row.FileOwner.TheVariants.{Nobody, OtherFormat, OtherNode, ThisNode}

-- the row has that format
abbrev pub HasFormat : RecordFormat → Row → Type 0
HasFormat format row = column row 0 ≡ Int (pos (number_of format))

-- the owner of a file, by its format and its node
abbrev pub IsOwnerIn : List ℕ → List Row → FileOwner → Type 0
IsOwnerIn node rows Nobody = rows ≡ []
IsOwnerIn node rows OtherFormat = (row : Row) × (slice_get rows 0 ≡ Some row) × ((format : RecordFormat) → HasFormat format row → ⊥)
IsOwnerIn node rows OtherNode = (row : Row) × (slice_get rows 0 ≡ Some row) × ((format : RecordFormat) × HasFormat format row) × (column row 1 ≡ Words node → ⊥)
IsOwnerIn node rows (ThisNode format) = (row : Row) × (slice_get rows 0 ≡ Some row) × HasFormat format row × (column row 1 ≡ Words node)

-- the place
abbrev pub IsPlaceIn : List Row → Option ℤ → Type 0
IsPlaceIn rows None = rows ≡ []
IsPlaceIn rows (Some place) = (row : Row) × (slice_get rows 0 ≡ Some row) × (column row 0 ≡ Int place)
