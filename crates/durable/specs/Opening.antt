-- The database that an opening finds in a file, and the store that it makes of a new one.
use Rattle.store_tables.specs.Within.{HasStore}
use Rattle.std.specs.Prelude.{◌≡◌, ◌⊎◌, ℕ, ℤ, pos, negsuc, Bool, true, false, ◌<ℤ◌, List, [], ◌∷◌, map, Option, Some, None, Result, Ok, Err, OnOk, IfOk, IfErr, length, All, IsTrue, Any}
use Rattle.std.specs.List.{Contains}
use Rattle.sqlite.specs.declared.types.Value.TheVariants.{Int, Text as Words}
use Rattle.sqlite.specs.Order.{Row, column}
use Rattle.sqlite.specs.Tree.{Trees}
use Rattle.sqlite.specs.Edit.{id_in}
use Rattle.sqlite.specs.Schema.{Schema}
use Rattle.sqlite.specs.Effect.{Database}
use Rattle.sqlite.specs.Held.{Held, state}
use Rattle.sqlite.specs.State.{HasCleanDisk, State}
use Rattle.sqlite.specs.Store.{Ghosts}
use Rattle.stores.specs.declared.fault.StoreFault.{StoreFault}
use Rattle.stores.specs.declared.fault.StoreFault.TheVariants.{Device, Full, Damaged, WrongNode, WrongVersion, Reopen, NoMemory}
use Rattle.store_tables.specs.declared.owner_row.FileOwner.{FileOwner}
use Rattle.store_tables.specs.declared.owner_row.FileOwner.TheVariants.{Nobody, OtherFormat, OtherNode, ThisNode}
use Rattle.durable.specs.declared.opening.Contents.{Contents}
use Rattle.durable.specs.declared.opening.Contents.TheVariants.{NoRow, OwnStore}
use Rattle.store_tables.specs.Tables.{TableOrder, AboutFirst, about_tree, entries_tree, about, about_table, store_schema, no_schema, IsStoreSchema, order_in}
use Rattle.store_tables.specs.Rows.{HoldsRows}
use Rattle.store_tables.specs.Held.{slots_in, node_in, IsStore, IsReady}
use Rattle.store_migration.specs.Migrating.{IsMigrated}
use Rattle.stores.specs.Faults.{is_judgement}
use Rattle.stores.specs.Records.{IsDamagedIn}
use Rattle.wire.specs.Records.{number_of}
use Rattle.wire.specs.declared.record_format.RecordFormat.{RecordFormat}
use Rattle.wire.specs.declared.record_format.RecordFormat.TheVariants.{One}

-- the database has tables other than those of a store
abbrev pub HasOtherTables : Database → Type 0
HasOtherTables db = (db.schema ≡ no_schema → ⊥) × (IsStoreSchema db.schema → ⊥)

-- there are records, and no owner
abbrev pub HasNoOwner : Database → Type 0
HasNoOwner db = (order : TableOrder) × (db.schema ≡ store_schema order) × (db.trees (about_tree order) ≡ []) × (db.trees (entries_tree order) ≡ [] → ⊥)

-- a record's place is below 0
abbrev pub HasNegativePlace : Database → Type 0
HasNegativePlace db = (order : TableOrder) × (db.schema ≡ store_schema order) × Any (λ row. (n : ℕ) × (column row 0 ≡ Int (negsuc n))) (db.trees (entries_tree order))

-- the file is no store
abbrev pub IsNoStore : Database → Type 0
IsNoStore db = HasOtherTables db ⊎ (HasNoOwner db ⊎ HasNegativePlace db)

-- the owner's row has a format that is none of a store
abbrev pub HasOtherFormat : Database → Type 0
HasOtherFormat db =
    (order : TableOrder) × (db.schema ≡ store_schema order) × (row : Row) × (db.trees (about_tree order) ≡ row ∷ []) × ((format : RecordFormat) → column row 2 ≡ Int (pos (number_of format)) → ⊥)

-- the owner's row names another node
abbrev pub HasOtherNode : List ℕ → Database → Type 0
HasOtherNode node db = (order : TableOrder) × (db.schema ≡ store_schema order) × (row : Row) × (db.trees (about_tree order) ≡ row ∷ []) × (column row 3 ≡ Words node → ⊥)

-- it is a store of that node and of format One, and that place is the first without a record
abbrev pub HasDamagedRecord : List ℕ → Database → ℕ → Type 0
HasDamagedRecord node db place = HasStore One db × (node_in db.trees ≡ node) × IsDamagedIn One place (slots_in db.trees)

-- the fault of an opening for that node, by the first of these causes
abbrev pub IsOpeningFault : List ℕ → Database → StoreFault → Type 0
IsOpeningFault node db (Damaged place) = ((place ≡ 0) × IsNoStore db) ⊎ HasDamagedRecord node db place
IsOpeningFault node db WrongVersion = (IsNoStore db → ⊥) × HasOtherFormat db
IsOpeningFault node db WrongNode = (IsNoStore db → ⊥) × (HasOtherFormat db → ⊥) × HasOtherNode node db
IsOpeningFault node db Device = Unit {0}
IsOpeningFault node db Full = Unit {0}
IsOpeningFault node db NoMemory = Unit {0}
IsOpeningFault node db Reopen = ⊥

-- the database has no table
abbrev pub IsBare : Database → Type 0
IsBare db = db.schema ≡ no_schema

-- the database has both tables, without a row
abbrev pub IsEmpty : Database → Type 0
IsEmpty db = (order : TableOrder) × (db.schema ≡ store_schema order) × (db.trees 0 ≡ []) × (db.trees 1 ≡ [])

-- the database has no table, or both tables without a row
abbrev pub IsNew : Database → Type 0
IsNew db = IsBare db ⊎ IsEmpty db

-- a store of that node without a record
pub record IsFresh (name : List ℕ) (db : Trees) : Type 0 where
  pub store : IsStore db
  pub node : node_in db ≡ name
  pub slots : slots_in db ≡ []

-- a database that may be there after an opening for that node, whether or not it succeeds: the one that was there; for
-- a new one also a store without a record; for a store of format One also the store that it is migrated to
abbrev pub MayComeOf : List ℕ → Database → Trees → Type 0
MayComeOf name before db = (db ≡ before.trees) ⊎ ((IsNew before × IsFresh name db) ⊎ IsMigrated before.trees db)

-- ---- what the code follows; no public contract cites what stands below

-- open, in no transaction, and nothing is uncommitted
pub record IsOpened (s : State) : Type 0 where
  pub is_open : IsTrue s.is_open
  pub idle : s.in_transaction ≡ false
  pub settled : s.now ≡ s.committed

-- the schema with only the table of the owner
abbrev pub about_schema : Schema
about_schema = record { tables = about_table 0 ∷ []; indexes = []; views = [] }

-- the table of the owner alone, without a row
abbrev pub HasAbout : Database → Type 0
HasAbout db = (db.schema ≡ about_schema) × (db.trees 0 ≡ [])

-- the same, with its tables
abbrev pub HasFresh : List ℕ → Database → Type 0
HasFresh node db = (db.schema ≡ store_schema (order_in db.trees)) × IsFresh node db.trees

-- a fresh store is committed
abbrev pub IsMade : List ℕ → State → Type 0
IsMade node s = IsReady s × IsFresh node s.committed.trees

-- both tables are there, with such rows
abbrev pub HasRows : Database → Type 0
HasRows db = (order : TableOrder) × (db.schema ≡ store_schema order) × HoldsRows order db.trees

-- the places of the records
abbrev pub places_in : List Row → List ℤ
places_in rows = map (λ row. id_in (column row 0)) rows

abbrev pub comes_before : Bool → ℤ → ℤ → Type 0
comes_before true m n = n <ℤ m
comes_before false m n = m <ℤ n

-- the least of the rows' places, or the greatest of them, where there is one
abbrev pub IsLeastOrGreatest : Bool → List Row → Option ℤ → Type 0
IsLeastOrGreatest greatest rows None = rows ≡ []
IsLeastOrGreatest greatest rows (Some place) = Contains (places_in rows) place × All (λ n. comes_before greatest n place → ⊥) (places_in rows)

-- the same for the records of a database
abbrev pub HasLeastOrGreatest : Bool → Database → Option ℤ → Type 0
HasLeastOrGreatest greatest db place = (order : TableOrder) × (db.schema ≡ store_schema order) × IsLeastOrGreatest greatest (db.trees (entries_tree order)) place

-- the owner of the file
abbrev pub IsOwner : List ℕ → Database → FileOwner → Type 0
IsOwner node db Nobody = (order : TableOrder) × (db.schema ≡ store_schema order) × (db.trees (about_tree order) ≡ [])
IsOwner node db OtherFormat = HasOtherFormat db
IsOwner node db OtherNode = (HasOtherFormat db → ⊥) × HasOtherNode node db
IsOwner node db (ThisNode format) = (order : TableOrder) × (db.schema ≡ store_schema order) × (db.trees (about_tree order) ≡ about (number_of format) node ∷ [])

-- there is a place, and it is below 0
abbrev pub IsNegative : Option ℤ → Type 0
IsNegative None = ⊥
IsNegative (Some place) = place <ℤ pos 0

-- the verdict on both tables: no row, a store of that node, or the fault
abbrev pub IsVerdict : List ℕ → Database → Result Contents StoreFault → Type 0
IsVerdict node db (Ok NoRow) = IsEmpty db
IsVerdict node db (Ok (OwnStore format)) = HasStore format db × (node_in db.trees ≡ node)
IsVerdict node db (Err fault) = IsOpeningFault node db fault

-- the tables after an opening: as they were, or both of a store, `about` first, in a file that had none
abbrev pub HasItsTables : Schema → Schema → Type 0
HasItsTables before after = ((before ≡ no_schema) × (after ≡ store_schema AboutFirst)) ⊎ (IsStoreSchema before × (after ≡ before))

-- The state of a connection to a file that held `before`, after an opening for that node: it has a store of the node,
-- or the result is the fault. After a crash the file holds the database that was there or, for a new file, a store
-- without a record or, for a store of format One, the store that it is migrated to. A file that is no store of the
-- node, or has a damaged record, stays as it was.
pub record BecomesStore (name : List ℕ) (before : Database) (s : State) (result : Result ℕ StoreFault) : Type 0 where
  pub ready : OnOk result (IsReady s × (node_in s.committed.trees ≡ name))
  pub count : IfOk result (λ count. count ≡ length (slots_in s.committed.trees))
  pub found : OnOk result ((IsNew before × (slots_in s.committed.trees ≡ [])) ⊎ ((s.committed ≡ before) ⊎ IsMigrated before.trees s.committed.trees))
  pub tables : OnOk result (HasItsTables before.schema s.committed.schema)
  pub fault : IfErr result (IsOpeningFault name before)
  pub crash : (db : Trees) → s.may_leave db → MayComeOf name before db
  pub unharmed : IfErr result (λ e. IsTrue (is_judgement e) → (db : Trees) → s.may_leave db → db ≡ before.trees)

-- a call that only reads, with any result: a crash leaves what was committed before it
pub record OnlyReads {S : Type 0} (g : Ghosts S) (old new : Held S) : Type 0 where
  pub idle : old.in_transaction ≡ false → new.in_transaction ≡ false
  pub clean : HasCleanDisk (state g new) → HasCleanDisk (state g old)
  pub crash : HasCleanDisk (state g new) → (db : Trees) → (state g new).may_leave db → db ≡ (state g old).committed.trees
