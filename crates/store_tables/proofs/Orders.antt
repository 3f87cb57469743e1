-- Which of the two tables was made first, from the schema and from the rows.
use Rattle.std.proofs.Common.{◌≡◌, inl, inr, ℕ, List, [], ◌∷◌, length, slice_index_or, refl, sym, ap, subst, ◌∙◌, arith}
use Rattle.std.specs.List.{AllByRecursion}
use Rattle.sqlite.specs.Order.{Row, column, bytes}
use Rattle.sqlite.specs.Schema.{Schema}
use Rattle.sqlite.specs.Table.{Table}
use Rattle.sqlite.specs.Tree.{Trees}
use Rattle.sqlite.specs.Program.{overlay}
use Rattle.store_tables.specs.Tables.{TableOrder, AboutFirst, EntriesFirst, about_tree, entries_tree, store_schema, about, order_of, order_in, about_rows, entry_rows}
use Rattle.store_tables.specs.Slots.{slots_from, AreEntries}
use Rattle.wire.specs.declared.record_format.RecordFormat.{RecordFormat}
use Rattle.wire.specs.Records.{number_of}
use Rattle.store_tables.specs.Held.{slots_in, node_in, IsStoreIn}
use Rattle.store_tables.specs.Rows.{IsEntry, HoldsRows}

-- the number of columns of the first table
abbrev first_columns : List Table → ℕ
first_columns [] = 0
first_columns (table ∷ tables) = length table.columns

-- a schema is that of one order
pub same_order : (schema : Schema) (order other : TableOrder) → schema ≡ store_schema order → schema ≡ store_schema other → order ≡ other
same_order schema AboutFirst AboutFirst one two = refl
same_order schema AboutFirst EntriesFirst one two = let never : 3 ≡ 2 = ap (λ (s : Schema). first_columns s.tables) (sym one ∙ two) in absurd (omega (arith, never))
same_order schema EntriesFirst AboutFirst one two = let never : 2 ≡ 3 = ap (λ (s : Schema). first_columns s.tables) (sym one ∙ two) in absurd (omega (arith, never))
same_order schema EntriesFirst EntriesFirst one two = refl

-- with no row in either tree neither table has one, and the other way round
pub no_rows : (order : TableOrder) (db : Trees) → db 0 ≡ [] → db 1 ≡ [] → (db (about_tree order) ≡ []) × (db (entries_tree order) ≡ [])
no_rows AboutFirst db zero one = (zero, one)
no_rows EntriesFirst db zero one = (one, zero)

pub no_trees : (order : TableOrder) (db : Trees) → db (about_tree order) ≡ [] → db (entries_tree order) ≡ [] → (db 0 ≡ []) × (db 1 ≡ [])
no_trees AboutFirst db about entries = (about, entries)
no_trees EntriesFirst db about entries = (entries, about)

-- a query reads the table's own tree
pub own_rows : (db : Trees) (order : TableOrder) → overlay db [] (entries_tree order) ≡ db (entries_tree order)
own_rows db AboutFirst = refl
own_rows db EntriesFirst = refl

pub own_row : (db : Trees) (order : TableOrder) → overlay db [] (about_tree order) ≡ db (about_tree order)
own_row db AboutFirst = refl
own_row db EntriesFirst = refl

-- a record's row has three values
pub of_records : (rows : List Row) → AllByRecursion IsEntry rows → order_of rows ≡ AboutFirst
of_records [] are = refl
of_records (row ∷ rows) are = ap (λ (r : Row). order_of (r ∷ rows)) are.0.2

of_entries : (from : ℕ) (rows : List Row) → AreEntries from rows → order_of rows ≡ AboutFirst
of_entries from [] are = refl
of_entries from (row ∷ rows) are = ap (λ (r : Row). order_of (r ∷ rows)) are.1

-- rows that the tables of an order hold determine that order
pub told_order : (order : TableOrder) (format : ℕ) (node : List ℕ) (from : ℕ) (db : Trees) → db (about_tree order) ≡ about format node ∷ [] → AreEntries from (db (entries_tree order)) → order_in db ≡ order
told_order AboutFirst format node from db owner entries = of_entries from (db 1) entries
told_order EntriesFirst format node from db owner entries = ap order_of owner

no_entry : (row : Row) (rows : List Row) (format : ℕ) (node : List ℕ) → AllByRecursion IsEntry rows → rows ≡ about format node ∷ [] → ⊥
no_entry row [] format node are is = let never : 0 ≡ 1 = ap length is in omega (arith, never)
no_entry row (first ∷ rows) format node are is =
    let four : length first ≡ 4 = ap (λ (all : List Row). length (slice_index_or all 0 row)) is in
    let three : length first ≡ 3 = ap length are.0.2 in
    omega (arith, four, three)

-- the order that a store's rows determine is that of its tables
pub found_order : (format : RecordFormat) (order : TableOrder) (db : Trees) → HoldsRows order db → IsStoreIn format db → order_in db ≡ order
found_order format AboutFirst db holds store = of_records (db 1) holds.entries
found_order format EntriesFirst db holds store = elim (holds.owner) [
  | inl none ↦
      let first : order_in db ≡ AboutFirst = ap order_of none in
      absurd (no_entry [] (db 0) (number_of format) (node_in db) holds.entries (ap (λ (order : TableOrder). db (about_tree order)) (sym first) ∙ store.owner))
  | inr some ↦ ap order_of some.2
]

-- trees that have these rows are a store
pub record IsStoreOf (format : RecordFormat) (order : TableOrder) (name : List ℕ) (rows : List Row) (db : Trees) : Type 0 where
  pub order_is : order_in db ≡ order
  pub store : IsStoreIn format db
  pub node : node_in db ≡ name
  pub slots : slots_in db ≡ slots_from 0 rows

pub store-of : (format : RecordFormat) (order : TableOrder) (node : List ℕ) (rows : List Row) (db : Trees) → db (about_tree order) ≡ about (number_of format) node ∷ [] → db (entries_tree order) ≡ rows → AreEntries 0 rows
    → IsStoreOf format order node rows db
store-of format order node rows db owner is entries =
    let told = told_order order (number_of format) node 0 db owner (subst (AreEntries 0) (sym is) entries) in
    let abouts : about_rows db ≡ about (number_of format) node ∷ [] = ap (λ (o : TableOrder). db (about_tree o)) told ∙ owner in
    let records : entry_rows db ≡ rows = ap (λ (o : TableOrder). db (entries_tree o)) told ∙ is in
    let name : node_in db ≡ node = ap (λ (all : List Row). bytes (column (slice_index_or all 0 []) 3)) abouts in
    record {
      order_is = told;
      store = record { owner = abouts ∙ ap (λ n. about (number_of format) n ∷ []) (sym name); entries = subst (AreEntries 0) (sym records) entries };
      node = name;
      slots = ap (slots_from 0) records;
    }
