-- The effect of an opening's statements on a file that has no row.
use Rattle.std.proofs.Common.{◌≡◌, ℕ, pos, List, [], ◌∷◌, false, None, Option, Ok, refl, sym, ap, subst, ◌∙◌, arith}
use Rattle.sqlite.specs.declared.types.Value.TheVariants.{Int, Text}
use Rattle.sqlite.specs.Order.{Row}
use Rattle.sqlite.specs.Tree.{Trees}
use Rattle.sqlite.specs.Table.{Table}
use Rattle.sqlite.specs.Schema.{Schema}
use Rattle.sqlite.specs.Edit.{edit_of, edited}
use Rattle.sqlite.specs.Rowids.TheVariants.{Chosen}
use Rattle.sqlite.specs.Source.TheVariants.{Values}
use Rattle.sqlite.specs.Command.TheVariants.{Insert, CreateTable}
use Rattle.sqlite.specs.Change.{created, next_tree, KeepsRows}
use Rattle.sqlite.specs.Compile.{table_defined_by}
use Rattle.sqlite.specs.Does.{Tally, Does, lacks_sequence}
use Rattle.sqlite.specs.Rows.{Written}
use Rattle.sqlite.specs.Effect.{Database}
use Rattle.sqlite.proofs.Callers.{one_step}
use Rattle.wire.specs.Records.{number_of}
use Rattle.store_tables.specs.Formats.{newest}
use Rattle.store_tables.specs.Tables.{TableOrder, AboutFirst, EntriesFirst, about_tree, entries_tree, about_table, entries_table, store_schema, no_schema, about}
use Rattle.durable.specs.Opening.{about_schema, IsBare, HasAbout, IsEmpty, HasFresh}
use Rattle.store_tables.proofs.Texts.{about_text, entries_text, about_is, entries_is}
use Rattle.durable.proofs.OpeningTexts.{own_terms}
use Rattle.store_tables.proofs.Inserting.{enforced, went, same_value, cast_null, cast_int}
use Rattle.store_tables.proofs.Orders.{no_rows, store-of}

-- CREATE TABLE appends the table that its text defines, and keeps the rows of the others
made : (limit : Option ℕ) (text : List ℕ) (schema : Schema) (table : Table) (db after : Database) (tally : Tally) → db.schema ≡ schema → table_defined_by text ≡ Ok table
    → lacks_sequence (created schema table) ≡ false → Does limit enforced [] db text None CreateTable (Ok (tally, after))
    → (after.schema ≡ created schema table) × (after.trees (next_tree schema) ≡ []) × KeepsRows schema.tables db.trees after.trees
made limit text schema table db after tally has is plain does =
    let all = went does in
    let first = went all.1 in
    let made = first.1 in
    let both : Ok made.table ≡ Ok table = sym made.defined ∙ is in
    let same : made.table ≡ table = cc in
    let T : Type 0 = (after.schema ≡ created schema table) × (after.trees (next_tree schema) ≡ []) × KeepsRows schema.tables db.trees after.trees in
    let schema_is : first.0.schema ≡ created schema table = made.is ∙ ap (λ s. created s made.table) has ∙ ap (created schema) same in
    let bare : lacks_sequence first.0.schema ≡ false = ap lacks_sequence schema_is ∙ plain in
    let now : after ≡ first.0 = ap (λ (p : Tally × Database). p.1) (same_value all.2) ∙ same_value (rw bare at first.2) in
    let out : T = (
      ap (λ (d : Database). d.schema) now ∙ schema_is,
      ap (λ (d : Database). d.trees (next_tree schema)) now ∙ subst (λ s. first.0.trees (next_tree s) ≡ []) has made.empty,
      subst (λ (d : Database). KeepsRows schema.tables db.trees d.trees) (sym now) (subst (λ (s : Schema). KeepsRows s.tables db.trees first.0.trees) has made.others),
    ) in out

pub about_made : (limit : Option ℕ) (db after : Database) (tally : Tally) → IsBare db → Does limit enforced [] db about_text None CreateTable (Ok (tally, after)) → HasAbout after
about_made limit db after tally bare does = let it = made limit about_text no_schema (about_table 0) db after tally bare about_is refl does in (it.0, it.1)

pub entries_made : (limit : Option ℕ) (db after : Database) (tally : Tally) → HasAbout db → Does limit enforced [] db entries_text None CreateTable (Ok (tally, after))
    → IsEmpty after × (after.schema ≡ store_schema AboutFirst)
entries_made limit db after tally has does =
    let it = made limit entries_text about_schema (entries_table 0) db after tally has.0 entries_is refl does in
    ((AboutFirst, it.0, it.2.0 ∙ has.1, it.1), it.0)

-- the parameters of the statement that inserts the owner's row
abbrev pub owner_given : List ℕ → Row
owner_given node = Int (pos (number_of newest)) ∷ Text node ∷ []

-- only the owner's row is inserted, and the other tree is unchanged
row_made : (order : TableOrder) (limit : Option ℕ) (text node : List ℕ) (db after : Database) (tally : Tally) → db.schema ≡ store_schema order → db.trees (about_tree order) ≡ []
    → Does limit enforced (owner_given node) db text None (Insert (about_tree order) (Values own_terms 4)) (Ok (tally, after))
    → (after.schema ≡ store_schema order) × (after.trees (about_tree order) ≡ about (number_of newest) node ∷ []) × (after.trees (entries_tree order) ≡ db.trees (entries_tree order))
row_made AboutFirst limit text node db after tally has none does =
    let params : Row = owner_given node in
    let done = went (subst (λ s. Does limit enforced params (record db { schema = s }) text None (Insert 0 (Values own_terms 4)) (Ok (tally, after))) has does) in
    let now = ap (λ (p : Tally × Database). p.1) (same_value (went (went done.2).2).2) in
    let sources = went done.1 in
    let written = went (went sources.2).2 in
    let counted = went written.2 in
    let trees : done.0.trees ≡ written.0 = ap (λ (it : Written). it.trees) (same_value counted.2) ∙ same_value counted.1 in
    let applied = one_step (store_schema AboutFirst) _ db.trees written.0 (edit_of db.trees (about_table 0) [] Chosen 0 sources.0) refl written.1 in
    let edit : edited db.trees (edit_of db.trees (about_table 0) [] Chosen 0 sources.0) ≡ about (number_of newest) node ∷ [] =
    ap (λ all. edited db.trees (edit_of db.trees (about_table 0) [] Chosen 0 all)) sources.1.1 ∙ rw (cast_null, cast_int 1, cast_int (number_of newest), none) refl in (
      ap (λ (d : Database). d.schema) now,
      ap (λ (d : Database). d.trees 0) now ∙ ap (λ (t : Trees). t 0) trees ∙ applied.rows ∙ edit,
      ap (λ (d : Database). d.trees 1) now ∙ ap (λ (t : Trees). t 1) trees ∙ applied.others 1 (λ e. omega (arith, e)) tt,
    )
row_made EntriesFirst limit text node db after tally has none does =
    let params : Row = owner_given node in
    let done = went (subst (λ s. Does limit enforced params (record db { schema = s }) text None (Insert 1 (Values own_terms 4)) (Ok (tally, after))) has does) in
    let now = ap (λ (p : Tally × Database). p.1) (same_value (went (went done.2).2).2) in
    let sources = went done.1 in
    let written = went (went sources.2).2 in
    let counted = went written.2 in
    let trees : done.0.trees ≡ written.0 = ap (λ (it : Written). it.trees) (same_value counted.2) ∙ same_value counted.1 in
    let applied = one_step (store_schema EntriesFirst) _ db.trees written.0 (edit_of db.trees (about_table 1) [] Chosen 0 sources.0) refl written.1 in
    let edit : edited db.trees (edit_of db.trees (about_table 1) [] Chosen 0 sources.0) ≡ about (number_of newest) node ∷ [] =
    ap (λ all. edited db.trees (edit_of db.trees (about_table 1) [] Chosen 0 all)) sources.1.1 ∙ rw (cast_null, cast_int 1, cast_int (number_of newest), none) refl in (
      ap (λ (d : Database). d.schema) now,
      ap (λ (d : Database). d.trees 1) now ∙ ap (λ (t : Trees). t 1) trees ∙ applied.rows ∙ edit,
      ap (λ (d : Database). d.trees 0) now ∙ ap (λ (t : Trees). t 0) trees ∙ applied.others 0 (λ e. omega (arith, e)) tt,
    )

-- with the owner's row the file is a store
pub owner_made : (limit : Option ℕ) (text node : List ℕ) (db after : Database) (tally : Tally) (has : IsEmpty db)
    → Does limit enforced (owner_given node) db text None (Insert (about_tree has.0) (Values own_terms 4)) (Ok (tally, after))
    → HasFresh node after × (after.schema ≡ db.schema)
owner_made limit text node db after tally has does =
    let none = no_rows has.0 db.trees has.2 has.3 in
    let rows = row_made has.0 limit text node db after tally has.1 none.0 does in
    let it = store-of newest has.0 node [] after.trees rows.1 (rows.2 ∙ none.1) tt in
    ((rows.0 ∙ ap store_schema (sym it.order_is), record { store = it.store; node = it.node; slots = it.slots }), rows.0 ∙ sym has.1)
