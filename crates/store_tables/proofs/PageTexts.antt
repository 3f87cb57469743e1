-- The meaning of the text of a page's query under the schema of a store, whichever of its tables was made first.
use Rattle.std.proofs.Common.{◌≡◌, ℕ, pos, negsuc, None, List, [], ◌∷◌, codes, false, refl}
use Rattle.sqlite.specs.declared.types.Value.TheVariants.{Int}
use Rattle.sqlite.specs.Collation.TheVariants.{Binary}
use Rattle.sqlite_sql.specs.declared.ops.CompareOp.TheVariants.{Ge, Le}
use Rattle.sqlite_sql.specs.declared.ops.BinaryOp.TheVariants.{Compare}
use Rattle.sqlite.specs.Query.{Query, inner, end}
use Rattle.sqlite.specs.Command.{Command}
use Rattle.sqlite.specs.Term.{lit, col, op2}
use Rattle.sqlite.specs.Command.TheVariants.{Select}
use Rattle.sqlite.specs.Listing.{understood, reads_listing}
use Rattle.sqlite_tied.specs.Compute.{everything}
use Rattle.sqlite.proofs.Callers.{IsPlain, command_of}
use Rattle.store_tables.specs.Tables.{TableOrder, AboutFirst, EntriesFirst, entries_tree, store_schema}

abbrev pub page_text : List ℕ
page_text = codes "SELECT place, body FROM entries WHERE place >= ?1 AND place <= ?2 ORDER BY place"

-- the query for the entries in that tree
abbrev pub page_query : ℕ → Query
page_query tree = record {
  from = inner tree end;
  filter = op2 (Compare Ge Binary) (col 1 0) (col 0 0) ∷ op2 (Compare Le Binary) (col 1 0) (col 0 1) ∷ [];
  group = None;
  project = col 1 0 ∷ col 1 2 ∷ [];
  distinct = false;
  collations = [];
  order = (col 1 0, record { collation = Binary; descending = false }) ∷ [];
  limit = lit (Int (negsuc 0));
  offset = lit (Int (pos 0));
}

abbrev pub page_command : ℕ → Command
page_command tree = Select (record { lets = []; body = page_query tree }) (codes "place" ∷ codes "body" ∷ [])

pub page_is : (order : TableOrder) → (command_of (understood (store_schema order) page_text) ≡ page_command (entries_tree order)) × (reads_listing (store_schema order) page_text ≡ false)
unfolding understood everything
page_is AboutFirst = (refl, refl)
page_is EntriesFirst = (refl, refl)

pub page_plain : (order : TableOrder) → IsPlain (understood (store_schema order) page_text)
unfolding understood everything
page_plain AboutFirst = (refl, refl)
page_plain EntriesFirst = (refl, refl)
