-- The meaning of the texts of an opening: of those that make a store, under the schemas that they meet, and of those
-- that query one.
use Rattle.std.proofs.Common.{◌≡◌, ℕ, pos, negsuc, None, List, [], ◌∷◌, Bool, codes, true, false, refl}
use Rattle.sqlite.specs.declared.types.Value.TheVariants.{Null, Int}
use Rattle.sqlite.specs.Collation.TheVariants.{Binary}
use Rattle.sqlite.specs.Query.{Query, inner, end}
use Rattle.sqlite.specs.Command.{Command}
use Rattle.sqlite.specs.Term.{Term, lit, col}
use Rattle.sqlite.specs.Source.TheVariants.{Values}
use Rattle.sqlite.specs.Command.TheVariants.{Insert, CreateTable, Select}
use Rattle.sqlite.specs.Listing.{understood, reads_listing}
use Rattle.store_tables.specs.Compute.{everything}
use Rattle.sqlite.proofs.Callers.{IsPlain, command_of, statement_of}
use Rattle.store_tables.specs.Tables.{TableOrder, AboutFirst, EntriesFirst, about_tree, entries_tree, store_schema, no_schema}
use Rattle.durable.specs.Opening.{about_schema}
use Rattle.store_tables.proofs.Texts.{about_text, entries_text}

pub about_command : (command_of (understood no_schema about_text) ≡ CreateTable) × (statement_of about_text (understood no_schema about_text) ≡ about_text)
unfolding understood everything
about_command = (refl, refl)

pub about_plain : IsPlain (understood no_schema about_text)
unfolding understood everything
about_plain = (refl, refl)

pub entries_command : (command_of (understood about_schema entries_text) ≡ CreateTable) × (statement_of entries_text (understood about_schema entries_text) ≡ entries_text)
unfolding understood everything
entries_command = (refl, refl)

pub entries_plain : IsPlain (understood about_schema entries_text)
unfolding understood everything
entries_plain = (refl, refl)

abbrev pub own_text : List ℕ
own_text = codes "INSERT INTO about (id, format, node) VALUES (1, ?1, ?2)"

abbrev pub own_terms : List Term
own_terms = lit (Int (pos 1)) ∷ lit Null ∷ col 0 0 ∷ col 0 1 ∷ []

pub own_is : (order : TableOrder) → command_of (understood (store_schema order) own_text) ≡ Insert (about_tree order) (Values own_terms 4)
unfolding understood everything
own_is AboutFirst = refl
own_is EntriesFirst = refl

pub own_plain : (order : TableOrder) → IsPlain (understood (store_schema order) own_text)
unfolding understood everything
own_plain AboutFirst = (refl, refl)
own_plain EntriesFirst = (refl, refl)

-- the query for all rows of a table
abbrev pub whole : ℕ → List Term → Query
whole table shown = record {
  from = inner table end;
  filter = [];
  group = None;
  project = shown;
  distinct = false;
  collations = [];
  order = [];
  limit = lit (Int (negsuc 0));
  offset = lit (Int (pos 0));
}

abbrev pub owner_query : ℕ → Query
owner_query table = whole table (col 1 2 ∷ col 1 3 ∷ [])

-- the query for its first row by the rowid
abbrev pub first_row : ℕ → Bool → Query
first_row table descending = record (whole table (col 1 0 ∷ [])) { order = (col 1 0, record { collation = Binary; descending = descending }) ∷ []; limit = lit (Int (pos 1)) }

abbrev pub shows : Query → List (List ℕ) → Command
shows query names = Select (record { lets = []; body = query }) names

abbrev pub owner_text : List ℕ
owner_text = codes "SELECT format, node FROM about"

abbrev pub least_text : List ℕ
least_text = codes "SELECT place FROM entries ORDER BY place LIMIT 1"

abbrev pub greatest_text : List ℕ
greatest_text = codes "SELECT place FROM entries ORDER BY place DESC LIMIT 1"

pub owner_is : (order : TableOrder) → (command_of (understood (store_schema order) owner_text) ≡ shows (owner_query (about_tree order)) (codes "format" ∷ codes "node" ∷ [])) × (reads_listing (store_schema order) owner_text ≡ false)
unfolding understood everything
owner_is AboutFirst = (refl, refl)
owner_is EntriesFirst = (refl, refl)

pub owner_plain : (order : TableOrder) → IsPlain (understood (store_schema order) owner_text)
unfolding understood everything
owner_plain AboutFirst = (refl, refl)
owner_plain EntriesFirst = (refl, refl)

pub least_is : (order : TableOrder) → (command_of (understood (store_schema order) least_text) ≡ shows (first_row (entries_tree order) false) (codes "place" ∷ [])) × (reads_listing (store_schema order) least_text ≡ false)
unfolding understood everything
least_is AboutFirst = (refl, refl)
least_is EntriesFirst = (refl, refl)

pub least_plain : (order : TableOrder) → IsPlain (understood (store_schema order) least_text)
unfolding understood everything
least_plain AboutFirst = (refl, refl)
least_plain EntriesFirst = (refl, refl)

pub greatest_is : (order : TableOrder) → (command_of (understood (store_schema order) greatest_text) ≡ shows (first_row (entries_tree order) true) (codes "place" ∷ [])) × (reads_listing (store_schema order) greatest_text ≡ false)
unfolding understood everything
greatest_is AboutFirst = (refl, refl)
greatest_is EntriesFirst = (refl, refl)

pub greatest_plain : (order : TableOrder) → IsPlain (understood (store_schema order) greatest_text)
unfolding understood everything
greatest_plain AboutFirst = (refl, refl)
greatest_plain EntriesFirst = (refl, refl)
