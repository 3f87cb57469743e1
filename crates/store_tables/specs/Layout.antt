-- The comparison of a database's tables with those of a store, part by part.
use Rattle.std.specs.Prelude.{◌≡◌, ℕ, List, pos, slice_index_or}
use Rattle.sqlite.specs.declared.types.Value.TheVariants.{Null, Int}
use Rattle.sqlite_sql.specs.declared.ops.BinaryOp.{BinaryOp}
use Rattle.sqlite_schema.specs.declared.code.Op.{Op}
use Rattle.sqlite_schema.specs.declared.code.Op.TheVariants.{Literal, Column}
use Rattle.sqlite.specs.Schema.{Schema}
use Rattle.store_tables.specs.Tables.{no_schema, IsStoreSchema, equality}
use Rattle.store_tables.specs.declared.layout.Tables.{Tables}
use Rattle.store_tables.specs.declared.layout.Tables.TheVariants as tables

-- no table, the two of a store in either order, or others
abbrev pub AreTables : Schema → Tables → Type 0
AreTables schema tables.None = schema ≡ no_schema
AreTables schema tables.Store = IsStoreSchema schema
AreTables schema tables.Foreign = (schema ≡ no_schema → ⊥) × (IsStoreSchema schema → ⊥)

-- ---- what the code follows; no public contract cites what stands below

-- a comparison has the parts of `id = 1`
abbrev pub IsFirst : List Op → BinaryOp → ℕ → ℕ → Type 0
IsFirst ops op left right =
    (op ≡ equality) × (slice_index_or ops left (Literal Null) ≡ Column 1 0) × (slice_index_or ops right (Literal Null) ≡ Literal (Int (pos 1)))
