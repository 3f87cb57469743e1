-- The effect of an INSERT of the next record on a store.
use Rattle.std.proofs.Common.{◌≡◌, ◌⊎◌, inl, inr, ℕ, pos, List, [], ◌∷◌, ◌++◌, length, Bool, true, false, cond, None, Option, Ok, Err, Result, refl, sym, ap, subst, ◌∙◌, arith}
use Rattle.sqlite.specs.declared.types.Value.{Value}
use Rattle.sqlite.specs.declared.types.Value.TheVariants.{Null, Int}
use Rattle.sqlite.specs.Order.{Row}
use Rattle.sqlite.specs.Tree.{Trees, put_row}
use Rattle.sqlite.specs.Ops.{unary}
use Rattle.sqlite.specs.Kind.TheVariants.{Integer}
use Rattle.sqlite.specs.Source.TheVariants.{Values}
use Rattle.sqlite.specs.Command.TheVariants.{Insert}
use Rattle.sqlite.specs.Edit.{edit_of, edited}
use Rattle.sqlite.specs.Cast.{cast}
use Rattle.sqlite.specs.Rowids.TheVariants.{Chosen}
use Rattle.sqlite.specs.Does.{Tally, Does}
use Rattle.sqlite.specs.Rows.{Written}
use Rattle.sqlite.specs.Effect.{Database}
use Rattle.sqlite.proofs.Callers.{one_step}
use Rattle.store_tables.specs.Formats.{newest}
use Rattle.store_tables.specs.Tables.{TableOrder, AboutFirst, EntriesFirst, about_tree, entries_tree, entries_table, store_schema, entry, order_in, entry_rows}
pub use Rattle.store_tables.specs.Rooms.{enforced, given}
use Rattle.store_tables.specs.Held.{slots_in, node_in, IsStore, HasMore}
use Rattle.store_tables.proofs.Orders.{store-of}
use Rattle.store_tables.proofs.Places.{put-last}
use Rattle.store_tables.proofs.Texts.{insert_terms}

either : (b : Bool) (x : Value) → cond b x x ≡ x
either true x = refl
either false x = refl

pub cast_null : cast Integer Null ≡ Null
unfolding unary
cast_null = either _ Null

pub cast_int : (n : ℕ) → cast Integer (Int (pos n)) ≡ Int (pos n)
unfolding unary
cast_int n = either _ (Int (pos n))

-- a part that gave a value did not stop on the way
pub went : {B E R : Type 0} {b : B} {Stops : E → Type 0} → ((stop : E) × Stops stop × (Ok b ≡ Err stop)) ⊎ R → R
went (inl stopped) = absurd (let e = stopped.2 in cc)
went (inr on) = on

pub same_value : {B E : Type 0} {a b : B} → ◌≡◌ {A = Result B E} (Ok a) (Ok b) → a ≡ b
same_value e = cc

-- the tree of entries has one more row, and the other tree is as it was
pub record HasRowPut (order : TableOrder) (row : Row) (db after : Database) : Type 0 where
  pub schema : after.schema ≡ store_schema order
  pub entries : after.trees (entries_tree order) ≡ put_row row (db.trees (entries_tree order))
  pub owner : after.trees (about_tree order) ≡ db.trees (about_tree order)

rows_after : (order : TableOrder) (limit : Option ℕ) (text : List ℕ) (place : ℕ) (body : List ℕ) (db after : Database) (tally : Tally) → db.schema ≡ store_schema order
    → Does limit enforced (given place body) db text None (Insert (entries_tree order) (Values insert_terms 3)) (Ok (tally, after)) → HasRowPut order (entry place body) db after
rows_after AboutFirst limit text place body db after tally schema does =
    let params = given place body in
    let done = went (subst (λ s. Does limit enforced params (record db { schema = s }) text None (Insert 1 (Values insert_terms 3)) (Ok (tally, after))) schema does) in
    let now = ap (λ (p : Tally × Database). p.1) (same_value (went (went done.2).2).2) in
    let sources = went done.1 in
    let written = went (went sources.2).2 in
    let counted = went written.2 in
    let trees : done.0.trees ≡ written.0 = ap (λ (it : Written). it.trees) (same_value counted.2) ∙ same_value counted.1 in
    let applied = one_step (store_schema AboutFirst) _ db.trees written.0 (edit_of db.trees (entries_table 1) [] Chosen 0 sources.0) refl written.1 in
    let edit : edited db.trees (edit_of db.trees (entries_table 1) [] Chosen 0 sources.0) ≡ put_row (entry place body) (db.trees 1) =
    ap (λ all. edited db.trees (edit_of db.trees (entries_table 1) [] Chosen 0 all)) sources.1.1 ∙ rw (cast_null, cast_int place) in
    record {
      schema = ap (λ (d : Database). d.schema) now;
      entries = ap (λ (d : Database). d.trees 1) now ∙ ap (λ (t : Trees). t 1) trees ∙ applied.rows ∙ edit;
      owner = ap (λ (d : Database). d.trees 0) now ∙ ap (λ (t : Trees). t 0) trees ∙ applied.others 0 (λ e. omega (arith, e)) tt;
    }
rows_after EntriesFirst limit text place body db after tally schema does =
    let params = given place body in
    let done = went (subst (λ s. Does limit enforced params (record db { schema = s }) text None (Insert 0 (Values insert_terms 3)) (Ok (tally, after))) schema does) in
    let now = ap (λ (p : Tally × Database). p.1) (same_value (went (went done.2).2).2) in
    let sources = went done.1 in
    let written = went (went sources.2).2 in
    let counted = went written.2 in
    let trees : done.0.trees ≡ written.0 = ap (λ (it : Written). it.trees) (same_value counted.2) ∙ same_value counted.1 in
    let applied = one_step (store_schema EntriesFirst) _ db.trees written.0 (edit_of db.trees (entries_table 0) [] Chosen 0 sources.0) refl written.1 in
    let edit : edited db.trees (edit_of db.trees (entries_table 0) [] Chosen 0 sources.0) ≡ put_row (entry place body) (db.trees 0) =
    ap (λ all. edited db.trees (edit_of db.trees (entries_table 0) [] Chosen 0 all)) sources.1.1 ∙ rw (cast_null, cast_int place) in
    record {
      schema = ap (λ (d : Database). d.schema) now;
      entries = ap (λ (d : Database). d.trees 0) now ∙ ap (λ (t : Trees). t 0) trees ∙ applied.rows ∙ edit;
      owner = ap (λ (d : Database). d.trees 1) now ∙ ap (λ (t : Trees). t 1) trees ∙ applied.others 1 (λ e. omega (arith, e)) tt;
    }

pub inserted : (limit : Option ℕ) (text body : List ℕ) (db after : Database) (tally : Tally) → db.schema ≡ store_schema (order_in db.trees) → IsStore db.trees
    → Does limit enforced (given (length (slots_in db.trees)) body) db text None (Insert (entries_tree (order_in db.trees)) (Values insert_terms 3)) (Ok (tally, after))
    → (after.schema ≡ store_schema (order_in after.trees)) × HasMore db.trees (body ∷ []) after.trees
inserted limit text body db after tally schema store does =
    let order = order_in db.trees in
    let place = length (slots_in db.trees) in
    let put = rows_after order limit text place body db after tally schema does in
    let last = put-last 0 place body (entry_rows db.trees) store.entries (omega arith) in
    let it = store-of newest order (node_in db.trees) (entry_rows db.trees ++ entry place body ∷ []) after.trees (put.owner ∙ store.owner) (put.entries ∙ last.put) last.entries in
    (put.schema ∙ ap store_schema (sym it.order_is), record { store = it.store; node = it.node; slots = it.slots ∙ last.slots })
