-- The meaning of the texts of statements under the schema of a store, whichever of its tables was made first.
use Rattle.std.proofs.Common.{◌≡◌, ℕ, List, [], ◌∷◌, codes, Ok, refl}
use Rattle.sqlite.specs.declared.types.Value.TheVariants.{Null}
use Rattle.sqlite.specs.Compile.{table_defined_by}
use Rattle.sqlite.specs.Term.{Term, lit, col}
use Rattle.sqlite.specs.Source.TheVariants.{Values}
use Rattle.sqlite.specs.Command.TheVariants.{Insert}
use Rattle.sqlite.specs.Listing.{understood}
use Rattle.sqlite_tied.specs.Compute.{everything}
use Rattle.sqlite.proofs.Callers.{IsPlain, command_of}
pub use Rattle.store_tables.specs.Rooms.{insert_text}
use Rattle.store_tables.specs.Tables.{TableOrder, AboutFirst, EntriesFirst, entries_tree, about_table, entries_table, store_schema}

abbrev pub about_text : List ℕ
about_text = codes "CREATE TABLE IF NOT EXISTS about (id INTEGER PRIMARY KEY CHECK (id = 1), format INTEGER NOT NULL, node TEXT NOT NULL) STRICT"

abbrev pub entries_text : List ℕ
entries_text = codes "CREATE TABLE IF NOT EXISTS entries (place INTEGER PRIMARY KEY, body TEXT NOT NULL) STRICT"

abbrev pub insert_terms : List Term
insert_terms = col 0 0 ∷ lit Null ∷ col 0 1 ∷ []

pub about_is : table_defined_by about_text ≡ Ok (about_table 0)
unfolding understood everything
about_is = refl

pub entries_is : table_defined_by entries_text ≡ Ok (entries_table 0)
unfolding understood everything
entries_is = refl

pub insert_is : (order : TableOrder) → command_of (understood (store_schema order) insert_text) ≡ Insert (entries_tree order) (Values insert_terms 3)
unfolding understood everything
insert_is AboutFirst = refl
insert_is EntriesFirst = refl

pub insert_plain : (order : TableOrder) → IsPlain (understood (store_schema order) insert_text)
unfolding understood everything
insert_plain AboutFirst = (refl, refl)
insert_plain EntriesFirst = (refl, refl)
