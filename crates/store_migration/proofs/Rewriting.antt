-- The effect on a store of the UPDATE of a record's body, and of that of the owner's format.
use Rattle.std.proofs.Common.{◌≡◌, inl, inr, ℕ, ◌+◌, pos, List, [], ◌∷◌, ◌++◌, map, flat_map, filter, Bool, true, false, cond, None, Some, Option, Ok, refl, sym, ap, subst, ◌∙◌, arith}
use Rattle.std.specs.Prelude.{◌==◌, ◌&&◌, slice_get}
use Rattle.std.specs.List.Sorted.{IsPermutation}
use Rattle.std.proofs.Math.Bool.{and-true}
use Rattle.std.proofs.lemmas.List.Sorted.{length_permutation}
use Rattle.std.specs.Ordering.{is_eq}
use Rattle.sqlite.specs.Ops.{binary, is_true, from_truth}
use Rattle.sqlite.specs.Term.{Env}
use Rattle.sqlite.specs.Query.{Query, IsAnswer, Output, output}
use Rattle.sqlite.specs.Program.{overlay}
use Rattle.sqlite.specs.declared.types.Value.{Value}
use Rattle.sqlite.specs.declared.types.Value.TheVariants.{Null, Int, Text}
use Rattle.sqlite.specs.Order.{Row, column, value_cmp}
use Rattle.sqlite.specs.Tree.{Trees, put_row}
use Rattle.sqlite.specs.Tree.{without_rowid, has_rowid}
use Rattle.sqlite.specs.Edit.{edit_of, edited}
use Rattle.sqlite.specs.Rowids.TheVariants.{Given}
use Rattle.sqlite.specs.Command.TheVariants.{Update}
use Rattle.sqlite.specs.Does.{Tally, Does, AtPlace, OnRows}
use Rattle.sqlite.specs.Rows.{Written}
use Rattle.sqlite.specs.Table.{Table}
use Rattle.store_tables.specs.Keys.TheVariants.{Enforced}
use Rattle.sqlite_rules.specs.Action.{works}
use Rattle.sqlite.specs.Edit.{Edit, taken_by}
use Rattle.sqlite.specs.Effect.{Database, Answers}
use Rattle.sqlite_rules.specs.Calls.{ids_of}
use Rattle.sqlite.proofs.Callers.{one_step, one_permutation}
use Rattle.wire.specs.declared.record_format.RecordFormat.{RecordFormat}
use Rattle.wire.specs.Records.{number_of}
use Rattle.store_tables.specs.Within.{HasStore}
use Rattle.store_tables.specs.Tables.{TableOrder, AboutFirst, EntriesFirst, about_tree, entries_tree, about_table, entries_table, store_schema, about, entry, equality, order_in, entry_rows}
use Rattle.store_tables.specs.Slots.{AreEntries, place_of, body_of}
use Rattle.store_tables.specs.Held.{slots_in, node_in}
use Rattle.store_migration.specs.Migrating.{with_body, HasPlaces}
use Rattle.store_tables.proofs.Inserting.{enforced, given, went, same_value, cast_null, cast_int}
use Rattle.store_migration.proofs.MigratingTexts.{body_query, body_command, format_query, format_command}
use Rattle.store_tables.proofs.Orders.{own_rows, own_row, store-of}
use Rattle.store_migration.proofs.Rewritten.{rewritten, cmp_is, is_at, row_id, found_in, rewritten_entries, rewritten_slots}

-- an UPDATE found some rows, and edited the tree of its table by them
record HasEdited (order : TableOrder) (table : Table) (query : Query) (params : Row) (db after : Database) : Type 0 where
  schema : after.schema ≡ store_schema order
  found : List Row
  answers : Answers (record db { schema = store_schema order }) (record { lets = []; body = query }) params found
  rows : after.trees table.tree ≡ edited db.trees (edit_of db.trees table (ids_of found) Given 1 found)
  others : (tree : ℕ) → (tree ≡ table.tree → ⊥) → after.trees tree ≡ db.trees tree

-- no table of a store refers to another one
no-works : (order : TableOrder) (db : Trees) (edit : Edit) → works (store_schema order) Enforced 0 edit.table.tree (taken_by db edit) edit.news ≡ []
no-works AboutFirst db edit = refl
no-works EntriesFirst db edit = refl

edits : (order : TableOrder) (table : Table) (query : Query) (limit : Option ℕ) (text : List ℕ) (params : Row) (db after : Database) (tally : Tally)
    → slice_get (store_schema order).tables table.tree ≡ Some table → db.schema ≡ store_schema order
    → Does limit enforced params db text None (Update table.tree (record { lets = []; body = query })) (Ok (tally, after)) → HasEdited order table query params db after
edits order table query limit text params db after tally here schema does =
    let command = Update table.tree (record { lets = []; body = query }) in
    let known = subst (λ s. Does limit enforced params (record db { schema = s }) text None command (Ok (tally, after))) schema does in
    let done = went (subst (λ (t : Option Table).
    AtPlace (λ own. OnRows (record { limit = limit; keys = Enforced; schema = store_schema order; table = own; params = params }) enforced None command db.trees) t (Ok (tally, after))) here known) in
    let now = ap (λ (p : Tally × Database). p.1) (same_value (went (went done.2).2).2) in
    let rows = went done.1 in
    let written = went rows.2 in
    let trees : done.0.trees ≡ written.0 = ap (λ (it : Written). it.trees) (same_value written.2) in
    let edit = edit_of db.trees table (ids_of rows.0) Given 1 rows.0 in
    let applied = one_step (store_schema order) _ db.trees written.0 edit (no-works order db.trees edit) written.1 in
    record {
      schema = ap (λ (d : Database). d.schema) now;
      found = rows.0;
      answers = rows.1;
      rows = ap (λ (d : Database). d.trees table.tree) now ∙ ap (λ (t : Trees). t table.tree) trees ∙ applied.rows;
      others = λ tree other. ap (λ (d : Database). d.trees tree) now ∙ ap (λ (t : Trees). t tree) trees ∙ applied.others tree other tt;
    }

-- each table is at its own tree, and the two trees differ
entries-here : (order : TableOrder) → slice_get (store_schema order).tables (entries_tree order) ≡ Some (entries_table (entries_tree order))
entries-here AboutFirst = refl
entries-here EntriesFirst = refl

about-here : (order : TableOrder) → slice_get (store_schema order).tables (about_tree order) ≡ Some (about_table (about_tree order))
about-here AboutFirst = refl
about-here EntriesFirst = refl

two-trees : (order : TableOrder) → about_tree order ≡ entries_tree order → ⊥
two-trees AboutFirst e = omega (arith, e)
two-trees EntriesFirst e = omega (arith, e)

-- ---- the rows that the query finds

from-truth : (b : Bool) → is_true (from_truth (Some b)) ≡ b
from-truth true = refl
from-truth false = refl

eq-is : (q n : ℕ) → is_true (binary equality (Int (pos q)) (Int (pos n))) ≡ (q == n)
unfolding binary
eq-is q n = from-truth (is_eq (value_cmp (Int (pos q)) (Int (pos n)))) ∙ cmp_is q n

abbrev env_of : Row → Row → Env
env_of params row = params ∷ row ∷ []

abbrev passes : ℕ → Row → Bool
passes place row = is_true (binary equality (column row 0) (Int (pos place))) && true

passes-is : (place : ℕ) (row : Row) → row ≡ entry (place_of row) (body_of row) → passes place row ≡ is_at place row
passes-is place row e = and-true (is_true (binary equality (column row 0) (Int (pos place)))) ∙ ap (λ (v : Value). is_true (binary equality v (Int (pos place)))) (row_id row e) ∙ eq-is (place_of row) place

filtered : (params : Row) (place from : ℕ) (rows : List Row) → AreEntries from rows
    → flat_map (λ (r : Row). cond (passes place r) (env_of params r ∷ []) []) rows ≡ map (env_of params) (filter (is_at place) rows)
filtered params place from [] h = refl
filtered params place from (row ∷ rows) h = rw (passes-is place row h.1) (go (is_at place row) (filtered params place (place_of row + 1) rows h.2))
  where
    go : (b : Bool) → flat_map (λ (r : Row). cond (passes place r) (env_of params r ∷ []) []) rows ≡ map (env_of params) (filter (is_at place) rows)
        → cond b (env_of params row ∷ []) [] ++ flat_map (λ (r : Row). cond (passes place r) (env_of params r ∷ []) []) rows
        ≡ map (env_of params) (cond b (row ∷ filter (is_at place) rows) (filter (is_at place) rows))
    go true e = ap (λ all. env_of params row ∷ all) e
    go false e = e

none_permutation : {X : Type 0} (ys : List X) → IsPermutation [] ys → ys ≡ []
none_permutation [] h = refl
none_permutation (y ∷ ys) h = absurd (let e = length_permutation [] (y ∷ ys) h in omega (arith, e))

-- the row as the statement finds it: the old rowid, and then the new row
abbrev seen : List ℕ → Row → Row
seen body row = column row 0 ∷ column row 0 ∷ Null ∷ Text body ∷ []

module _ (tree place : ℕ) (body : List ℕ) (db : Database) (found : List Row) (own : overlay db.trees [] tree ≡ db.trees tree) (are : AreEntries 0 (db.trees tree))
    (answers : Answers db (record { lets = []; body = body_query tree }) (given place body) found) where
  abbrev params : Row
  params = given place body

  abbrev q : Query
  q = body_query tree

  abbrev hits : List Row
  hits = filter (is_at place) (db.trees tree)

  answer : IsAnswer q (overlay db.trees []) params found
  answer = answers.answer Null

  kept_is : answer.kept ≡ map (output q) (map (env_of params) hits)
  kept_is =
      let matches : List Row → List Env = flat_map (λ (r : Row). cond (passes place r) (env_of params r ∷ []) []) in
      let staged : answer.staged ≡ map (env_of params) hits = answer.grouped ∙ ap matches own ∙ filtered params place 0 (db.trees tree) are in
      answer.distinct ∙ ap (map (output q)) staged

  finds_none : hits ≡ [] → found ≡ []
  finds_none no_hit =
      let empty : answer.kept ≡ [] = kept_is ∙ ap (λ (rows : List Row). map (output q) (map (env_of params) rows)) no_hit in
      let order : answer.ordered ≡ [] = none_permutation answer.ordered (subst (λ xs. IsPermutation xs answer.ordered) empty answer.same) in
      answer.shown ∙ ap (map (λ (o : Output). o.1)) order

  finds_one : (row : Row) → hits ≡ row ∷ [] → found ≡ seen body row ∷ []
  finds_one row one =
      let single : answer.kept ≡ output q (env_of params row) ∷ [] = kept_is ∙ ap (λ (rows : List Row). map (output q) (map (env_of params) rows)) one in
      let order : answer.ordered ≡ output q (env_of params row) ∷ [] = one_permutation (output q (env_of params row)) answer.ordered (subst (λ xs. IsPermutation xs answer.ordered) single answer.same) in
      answer.shown ∙ ap (map (λ (o : Output). o.1)) order

-- ---- the record at a place

-- one row is taken out, and inserted again with the other body
edited_one : (tree place : ℕ) (body : List ℕ) (db : Trees) (row : Row) → column row 0 ≡ Int (pos place)
    → edited db (edit_of db (entries_table tree) (ids_of (seen body row ∷ [])) Given 1 (seen body row ∷ [])) ≡ put_row (entry place body) (without_rowid (pos place) (db tree))
edited_one tree place body db row is =
    subst (λ (v : Value). edited db (edit_of db (entries_table tree) (ids_of ((v ∷ v ∷ Null ∷ Text body ∷ []) ∷ [])) Given 1 ((v ∷ v ∷ Null ∷ Text body ∷ []) ∷ [])) ≡ put_row (entry place body) (without_rowid (pos place) (db tree))) (sym is)
    (rw (cast_null, cast_int place) refl)

-- the schema and the owner stay, and the entries are rewritten
rows_after : (order : TableOrder) (limit : Option ℕ) (text : List ℕ) (place : ℕ) (body : List ℕ) (db after : Database) (tally : Tally) → db.schema ≡ store_schema order → AreEntries 0 (db.trees (entries_tree order))
    → Does limit enforced (given place body) db text None (body_command (entries_tree order)) (Ok (tally, after))
    → (after.schema ≡ store_schema order) × (after.trees (entries_tree order) ≡ rewritten place body (db.trees (entries_tree order))) × (after.trees (about_tree order) ≡ db.trees (about_tree order))
rows_after order limit text place body db after tally schema are does =
    let tree = entries_tree order in
    let e = edits order (entries_table tree) (body_query tree) limit text (given place body) db after tally (entries-here order) schema does in
    let known = record db { schema = store_schema order } in
    let own = own_rows db.trees order in
    let edit : List Row → List Row = λ found. edited db.trees (edit_of db.trees (entries_table tree) (ids_of found) Given 1 found) in
    let entries : after.trees tree ≡ rewritten place body (db.trees tree) = elim (found_in place 0 body (db.trees tree) are) [
      | inl none ↦ e.rows ∙ ap edit (finds_none tree place body known e.found own are e.answers none.0) ∙ sym none.1
      | inr it ↦
          e.rows ∙ ap edit (finds_one tree place body known e.found own are e.answers it.row it.one)
          ∙ edited_one tree place body db.trees it.row (row_id it.row it.is_entry ∙ ap (λ n. Int (pos n)) it.at) ∙ it.put
    ] in (e.schema, entries, e.others (about_tree order) (two-trees order))

-- a store of the same format and node, where one place has the other body, if it had one
pub body_put : (format : RecordFormat) (limit : Option ℕ) (text : List ℕ) (place : ℕ) (body : List ℕ) (db after : Database) (tally : Tally) → HasStore format db
    → Does limit enforced (given place body) db text None (body_command (entries_tree (order_in db.trees))) (Ok (tally, after))
    → HasStore format after × HasPlaces format db.trees (with_body place body (slots_in db.trees)) after.trees × (after.schema ≡ db.schema)
body_put format limit text place body db after tally has does =
    let order = order_in db.trees in
    let rows = entry_rows db.trees in
    let put = rows_after order limit text place body db after tally has.0 has.1.entries does in
    let it = store-of format order (node_in db.trees) (rewritten place body rows) after.trees (put.2 ∙ has.1.owner) put.1 (rewritten_entries place 0 body rows has.1.entries) in (
      (put.0 ∙ ap store_schema (sym it.order_is), it.store),
      record { store = it.store; node = it.node; slots = it.slots ∙ rewritten_slots 0 place place body rows has.1.entries (omega arith) },
      put.0 ∙ sym has.0,
    )

-- ---- the owner's format

abbrev owner_seen : ℕ → Row → Row
owner_seen format row = column row 0 ∷ column row 0 ∷ Null ∷ Int (pos format) ∷ column row 3 ∷ []

finds_owner : (tree format : ℕ) (db : Database) (found : List Row) (row : Row) → overlay db.trees [] tree ≡ row ∷ [] → Answers db (record { lets = []; body = format_query tree }) (Int (pos format) ∷ []) found
    → found ≡ owner_seen format row ∷ []
finds_owner tree format db found row own answers =
    let q = format_query tree in
    let params : Row = Int (pos format) ∷ [] in
    let answer : IsAnswer q (overlay db.trees []) params found = answers.answer Null in
    let matches : List Row → List Env = flat_map (λ (r : Row). env_of params r ∷ []) in
    let staged : answer.staged ≡ env_of params row ∷ [] = answer.grouped ∙ ap matches own in
    let single : answer.kept ≡ output q (env_of params row) ∷ [] = answer.distinct ∙ ap (map (output q)) staged in
    let order : answer.ordered ≡ output q (env_of params row) ∷ [] = one_permutation (output q (env_of params row)) answer.ordered (subst (λ xs. IsPermutation xs answer.ordered) single answer.same) in
    answer.shown ∙ ap (map (λ (o : Output). o.1)) order

owner_edited : (tree old new : ℕ) (node : List ℕ) (db : Trees) → db tree ≡ about old node ∷ []
    → edited db (edit_of db (about_table tree) (ids_of (owner_seen new (about old node) ∷ [])) Given 1 (owner_seen new (about old node) ∷ [])) ≡ about new node ∷ []
owner_edited tree old new node db is =
    let hit : has_rowid (pos 1) (about old node) ≡ true = cmp_is 1 1 in
    rw (cast_null, cast_int 1, cast_int new, is, hit) refl

-- a store of the new format and of the same node, with the same places
pub format_put : (old new : RecordFormat) (limit : Option ℕ) (text : List ℕ) (db after : Database) (tally : Tally) → HasStore old db
    → Does limit enforced (Int (pos (number_of new)) ∷ []) db text None (format_command (about_tree (order_in db.trees))) (Ok (tally, after))
    → HasStore new after × HasPlaces new db.trees (slots_in db.trees) after.trees × (after.schema ≡ db.schema)
format_put old new limit text db after tally has does =
    let order = order_in db.trees in
    let node = node_in db.trees in
    let row = about (number_of old) node in
    let tree = about_tree order in
    let e = edits order (about_table tree) (format_query tree) limit text (Int (pos (number_of new)) ∷ []) db after tally (about-here order) has.0 does in
    let edit : List Row → List Row = λ found. edited db.trees (edit_of db.trees (about_table tree) (ids_of found) Given 1 found) in
    let found = finds_owner tree (number_of new) (record db { schema = store_schema order }) e.found row (own_row db.trees order ∙ has.1.owner) e.answers in
    let owner : after.trees tree ≡ about (number_of new) node ∷ [] = e.rows ∙ ap edit found ∙ owner_edited tree (number_of old) (number_of new) node db.trees has.1.owner in
    let it = store-of new order node (entry_rows db.trees) after.trees owner (e.others (entries_tree order) (λ same. two-trees order (sym same))) has.1.entries in
    ((e.schema ∙ ap store_schema (sym it.order_is), it.store), record { store = it.store; node = it.node; slots = it.slots }, e.schema ∙ sym has.0)
