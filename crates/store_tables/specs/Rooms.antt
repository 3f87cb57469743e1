-- Why a store has no room for records.
use Rattle.std.specs.Prelude.{◌≡◌, ◌⊎◌, ◌+◌, ◌<◌, ◌^◌, ℕ, Any, false, List, [], ◌∷◌, codes, pos, length, Option, Some, None, Ok, Err}
use Rattle.sqlite_disk.specs.Disk.{MoreFaults}
use Rattle.sqlite_schema.specs.declared.schema.Keys.TheVariants.{Enforced}
use Rattle.sqlite_resolve.specs.declared.compiled.Compiled.{Compiled}
use Rattle.sqlite.specs.declared.error.Error.{Error}
use Rattle.sqlite.specs.declared.run.Mode.{Mode}
use Rattle.sqlite.specs.declared.types.Value.TheVariants.{Int, Text}
use Rattle.sqlite.specs.Clock.{timed}
use Rattle.sqlite.specs.Does.{Does}
use Rattle.sqlite.specs.Effect.{Database}
use Rattle.sqlite.specs.Listing.{understood}
use Rattle.sqlite.specs.Order.{Row}
use Rattle.sqlite.specs.State.{text_of}
use Rattle.wire.specs.declared.input.Input.{Input}
use Rattle.store_tables.specs.Held.{IsStore, slots_in}
use Rattle.stores.specs.Records.{Places, written}
use Rattle.store_tables.specs.Tables.{store_schema, order_in}

-- the statement that inserts a record
abbrev pub insert_text : List ℕ
insert_text = codes "INSERT INTO entries (place, body) VALUES (?1, ?2)"

-- its parameters
abbrev pub given : ℕ → List ℕ → Row
given place body = Int (pos place) ∷ Text body ∷ []

abbrev pub enforced : Mode
enforced = record { keys = Enforced; in_doubt = false; may_wait = false }

-- SQLite itself refuses to insert a record with this body into some store, at the first place after the others
pub record IsRefused (body : List ℕ) : Type 0 where
  pub db : Database
  pub schema : db.schema ≡ store_schema (order_in db.trees)
  pub store : IsStore db.trees
  pub statement : Compiled
  pub means : understood db.schema insert_text ≡ Ok statement
  pub limit : Option ℕ
  pub now : ℕ
  pub stop : Option Error
  pub refused : Does limit enforced (timed (given (length (slots_in db.trees)) body) statement.formats now) db (text_of insert_text statement) statement.returning statement.command (Err stop)

abbrev pub IsRefusedAt : Option (List ℕ) → Type 0
IsRefusedAt None = ⊥
IsRefusedAt (Some body) = IsRefused body

-- the count of failed calls of the disk rose, or SQLite itself refuses one of the records
abbrev pub HasNoRoom : ℕ → ℕ → Places → Type 0
HasNoRoom before after places = MoreFaults before after ⊎ Any IsRefusedAt places

-- there are too many places, or no room for one of the records
abbrev pub LacksRoom : Places → List Input → ℕ → ℕ → Type 0
LacksRoom content batch before after = (length content + length batch < 2 ^ 62 → ⊥) ⊎ HasNoRoom before after (written batch)
