-- The rows that the two tables can hold. No public contract cites it.
use Rattle.std.specs.Prelude.{◌≡◌, ◌⊎◌, ℕ, ℤ, pos, List, [], ◌∷◌}
use Rattle.std.specs.List.{AllByRecursion}
use Rattle.sqlite.specs.declared.types.Value.TheVariants.{Null, Int, Text as Words}
use Rattle.sqlite.specs.Order.{Row}
use Rattle.sqlite.specs.Tree.{Trees}
use Rattle.sqlite.specs.Tree.{IsTable}
use Rattle.store_tables.specs.Tables.{TableOrder, about_tree, entries_tree}

-- the row of the owner, of any format
abbrev pub owned : ℤ → List ℕ → Row
owned format node = Int (pos 1) ∷ Null ∷ Int format ∷ Words node ∷ []

-- a record at any place
abbrev pub IsEntry : Row → Type 0
IsEntry row = (place : ℤ) × (body : List ℕ) × (row ≡ Int place ∷ Null ∷ Words body ∷ [])

-- the rows that the two tables can hold: one of an owner or none, and records whose places rise
pub record HoldsRows (order : TableOrder) (db : Trees) : Type 0 where
  pub owner : (db (about_tree order) ≡ []) ⊎ ((format : ℤ) × (node : List ℕ) × (db (about_tree order) ≡ owned format node ∷ []))
  pub entries : AllByRecursion IsEntry (db (entries_tree order))
  pub rise : IsTable (db (entries_tree order))
