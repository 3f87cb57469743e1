-- The database that a transaction sees.
use Rattle.std.specs.Prelude.{◌≡◌, IsTrue}
use Rattle.sqlite.specs.Effect.{Database}
use Rattle.sqlite.specs.State.{State}
use Rattle.wire.specs.declared.record_format.RecordFormat.{RecordFormat}
use Rattle.store_tables.specs.Tables.{store_schema, order_in}
use Rattle.store_tables.specs.Held.{IsStoreIn}

-- a transaction is open, and `Holds` holds for the database that it sees
pub record IsWithin (s : State) (Holds : Database → Type 0) : Type 0 where
  pub is_open : IsTrue s.is_open
  pub inside : IsTrue s.in_transaction
  pub holds : Holds s.now

-- a store of that format, with its tables
abbrev pub HasStore : RecordFormat → Database → Type 0
HasStore format db = (db.schema ≡ store_schema (order_in db.trees)) × IsStoreIn format db.trees
