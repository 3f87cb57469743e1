-- The content of a connection to a store.
use Rattle.std.specs.Prelude.{◌≡◌, ◌⊎◌, false, [], ◌∷◌, ◌++◌, List, ℕ, map, slice_index_or, IsTrue, Option, Some}
use Rattle.sqlite.specs.Order.{column, bytes}
use Rattle.sqlite.specs.Tree.{Trees}
use Rattle.sqlite.specs.State.{State}
use Rattle.wire.specs.declared.record_format.RecordFormat.{RecordFormat}
use Rattle.wire.specs.Records.{number_of}
use Rattle.store_tables.specs.Formats.{newest}
use Rattle.store_tables.specs.Tables.{store_schema, order_in, about_rows, entry_rows, about}
use Rattle.store_tables.specs.Slots.{slots_from, AreEntries}

-- the places of the entries
abbrev pub slots_in : Trees → List (Option (List ℕ))
slots_in db = slots_from 0 (entry_rows db)

-- the node of the row of `about`
abbrev pub node_in : Trees → List ℕ
node_in db = bytes (column (slice_index_or (about_rows db) 0 []) 3)

-- one row of `about`, of that format, and entries
pub record IsStoreIn (format : RecordFormat) (db : Trees) : Type 0 where
  pub owner : about_rows db ≡ about (number_of format) (node_in db) ∷ []
  pub entries : AreEntries 0 (entry_rows db)

-- a store of the format in which stores are made
abbrev pub IsStore : Trees → Type 0
IsStore db = IsStoreIn newest db

-- the connection is open, in no transaction, and its last commit is a store of that format
pub record IsReadyIn (format : RecordFormat) (s : State) : Type 0 where
  pub is_open : IsTrue s.is_open
  pub idle : s.in_transaction ≡ false
  pub settled : s.now ≡ s.committed
  pub schema : s.committed.schema ≡ store_schema (order_in s.committed.trees)
  pub store : IsStoreIn format s.committed.trees

-- it is a store of the format in which stores are made
abbrev pub IsReady : State → Type 0
IsReady s = IsReadyIn newest s

-- the bodies stand after the earlier ones
abbrev pub followed_by : List (Option (List ℕ)) → List (List ℕ) → List (Option (List ℕ))
followed_by slots bodies = slots ++ map (λ body. Some body) bodies

-- a store of the same node, with the whole batch after its earlier records
pub record HasMore (old : Trees) (batch : List (List ℕ)) (new : Trees) : Type 0 where
  pub store : IsStore new
  pub node : node_in new ≡ node_in old
  pub slots : slots_in new ≡ followed_by (slots_in old) batch

-- a store of the same node, with the whole batch or as it was
pub record HasAllOrNone (old : Trees) (batch : List (List ℕ)) (new : Trees) : Type 0 where
  pub store : IsStore new
  pub node : node_in new ≡ node_in old
  pub slots : (slots_in new ≡ slots_in old) ⊎ (slots_in new ≡ followed_by (slots_in old) batch)

-- ---- what the code follows; no public contract cites what stands below

-- a transaction is open that sees a store
pub record IsInside (s : State) : Type 0 where
  pub is_open : IsTrue s.is_open
  pub inside : IsTrue s.in_transaction
  pub schema : s.now.schema ≡ store_schema (order_in s.now.trees)
  pub store : IsStore s.now.trees
