-- The meaning of the texts of a migration's statements under the schema of a store.
use Rattle.std.proofs.Common.{◌≡◌, ℕ, List, [], ◌∷◌, codes, None, false, pos, refl}
use Rattle.std.specs.Prelude.{negsuc}
use Rattle.sqlite.specs.declared.types.Value.TheVariants.{Null, Int}
use Rattle.sqlite.specs.Query.{Query, inner, end}
use Rattle.sqlite.specs.Term.{Term, lit, col, op2}
use Rattle.sqlite.specs.Command.{Command}
use Rattle.sqlite.specs.Command.TheVariants.{Update}
use Rattle.sqlite.specs.Listing.{understood}
use Rattle.store_tables.specs.Compute.{everything}
use Rattle.sqlite.proofs.Callers.{IsPlain, command_of}
use Rattle.store_tables.specs.Tables.{TableOrder, AboutFirst, EntriesFirst, about_tree, entries_tree, store_schema, equality}

abbrev pub body_text : List ℕ
body_text = codes "UPDATE entries SET body = ?2 WHERE place = ?1"

abbrev pub format_text : List ℕ
format_text = codes "UPDATE about SET format = ?1"

-- the rows of a table that a statement finds, and the row that it writes for each: the old rowid, and then the new row
abbrev pub rewriting : ℕ → List Term → List Term → Query
rewriting tree filter project = record {
  from = inner tree end;
  filter = filter;
  group = None;
  project = project;
  distinct = false;
  collations = [];
  order = [];
  limit = lit (Int (negsuc 0));
  offset = lit (Int (pos 0));
}

-- the record at the place of the first parameter, with the second one as its body
abbrev pub body_query : ℕ → Query
body_query tree = rewriting tree (op2 equality (col 1 0) (col 0 0) ∷ []) (col 1 0 ∷ col 1 0 ∷ lit Null ∷ col 0 1 ∷ [])

abbrev pub body_command : ℕ → Command
body_command tree = Update tree (record { lets = []; body = body_query tree })

-- each owner's row, with the parameter as its format
abbrev pub format_query : ℕ → Query
format_query tree = rewriting tree [] (col 1 0 ∷ col 1 0 ∷ lit Null ∷ col 0 0 ∷ col 1 3 ∷ [])

abbrev pub format_command : ℕ → Command
format_command tree = Update tree (record { lets = []; body = format_query tree })

pub body_is : (order : TableOrder) → command_of (understood (store_schema order) body_text) ≡ body_command (entries_tree order)
unfolding understood everything
body_is AboutFirst = refl
body_is EntriesFirst = refl

pub body_plain : (order : TableOrder) → IsPlain (understood (store_schema order) body_text)
unfolding understood everything
body_plain AboutFirst = (refl, refl)
body_plain EntriesFirst = (refl, refl)

pub format_is : (order : TableOrder) → command_of (understood (store_schema order) format_text) ≡ format_command (about_tree order)
unfolding understood everything
format_is AboutFirst = refl
format_is EntriesFirst = refl

pub format_plain : (order : TableOrder) → IsPlain (understood (store_schema order) format_text)
unfolding understood everything
format_plain AboutFirst = (refl, refl)
format_plain EntriesFirst = (refl, refl)
