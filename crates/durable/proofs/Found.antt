-- Which rows the tables of a store can hold, regardless of the program that wrote them.
use Rattle.std.proofs.Common.{◌≡◌, ◌<◌, arith, ◌⊎◌, inl, inr, ℕ, ℤ, pos, List, [], ◌∷◌, true, false, ◌&&◌, not, Some, ◌<ℤ◌, IsTrue, refl, sym, ap, subst, subst₂, ◌∙◌}
use Rattle.std.specs.List.{AllByRecursion}
use Rattle.std.proofs.lemmas.Bool.{and_parts, not-true}
use Rattle.sqlite.specs.declared.types.Value.{Value}
use Rattle.sqlite.specs.declared.types.Value.TheVariants.{Null, Int, Real, Text, Blob}
use Rattle.sqlite.specs.Order.{Row, value_cmp}
use Rattle.sqlite.specs.Schema.{Schema}
use Rattle.sqlite.specs.Tree.{Trees}
use Rattle.sqlite.specs.Tree.{IsTable, rowid}
use Rattle.sqlite.specs.View.{View, is_int, IsOrdered, IsShaped}
use Rattle.sqlite_trees.specs.Objects.{catalog_tree, IsListed}
use Rattle.sqlite.specs.Ops.{is_null, is_false, from_truth, binary}
use Rattle.store_tables.proofs.OrderLemmas.{value_cmp-Int}
use Rattle.std.specs.Cmp.{int_ranks}
use Rattle.std.specs.Ordering.{is_eq, int_cmp, MatchOrdering}
use Rattle.std.specs.declared.cmp.Ordering.{Ordering}
use Rattle.std.specs.declared.cmp.Ordering.TheVariants.{Less, Equal, Greater}
use Rattle.sqlite.specs.Kind.TheVariants as kind
use Rattle.store_tables.specs.Rules.{is_of, passes}
use Rattle.store_tables.specs.Constraint.TheVariants.{Datatype, NotNull, Check}
use Rattle.sqlite_catalog.specs.Listing.{IsSound}
use Rattle.sqlite_catalog.proofs.LayoutLemmas.{laid_out, objects_rise, named_tree}
use Rattle.store_tables.specs.Tables.{TableOrder, AboutFirst, EntriesFirst, store_schema, no_schema, about_table, entries_table}
use Rattle.store_tables.specs.Rows.{owned, IsEntry, HoldsRows}

null_of : (v : Value) → is_null v ≡ true → v ≡ Null
null_of Null e = refl
null_of (Int n) e = absurd cc
null_of (Real x) e = absurd cc
null_of (Text t) e = absurd cc
null_of (Blob b) e = absurd cc

int_of : (v : Value) → IsTrue (is_int v) → (n : ℤ) × (v ≡ Int n)
int_of Null e = absurd cc
int_of (Int n) e = (n, refl)
int_of (Real x) e = absurd cc
int_of (Text t) e = absurd cc
int_of (Blob b) e = absurd cc

text_of : (v : Value) → is_of kind.Text v ≡ true → is_null v ≡ false → (t : List ℕ) × (v ≡ Text t)
text_of Null e full = absurd cc
text_of (Int n) e full = absurd cc
text_of (Real x) e full = absurd cc
text_of (Text t) e full = (t, refl)
text_of (Blob b) e full = absurd cc

number_of : (v : Value) → is_of kind.Integer v ≡ true → is_null v ≡ false → (n : ℤ) × (v ≡ Int n)
number_of Null e full = absurd cc
number_of (Int n) e full = (n, refl)
number_of (Real x) e full = absurd cc
number_of (Text t) e full = absurd cc
number_of (Blob b) e full = absurd cc

three : {x y z x' y' z' : Value} → x ≡ x' → y ≡ y' → z ≡ z' → ◌≡◌ {A = Row} (x ∷ y ∷ z ∷ []) (x' ∷ y' ∷ z' ∷ [])
three a b c = cc

four : {x y z w x' y' z' w' : Value} → x ≡ x' → y ≡ y' → z ≡ z' → w ≡ w' → ◌≡◌ {A = Row} (x ∷ y ∷ z ∷ w ∷ []) (x' ∷ y' ∷ z' ∷ w' ∷ [])
four a b c d = cc

entry_of : (schema : Schema) (tree : ℕ) (db : Trees) (row : Row) → IsTrue (is_int (rowid row)) → passes Datatype schema db (entries_table tree) row ≡ true → passes NotNull schema db (entries_table tree) row ≡ true → IsEntry row
entry_of schema tree db [] id typed full = absurd cc
entry_of schema tree db (x ∷ []) id typed full = absurd cc
entry_of schema tree db (x ∷ y ∷ []) id typed full = absurd cc
entry_of schema tree db (x ∷ y ∷ z ∷ []) id typed full =
    let place = int_of x id in
    let parts = and_parts (is_null y) (is_of kind.Text z && true) (and_parts (is_null y && (is_of kind.Text z && true)) true typed).0 in
    let body = text_of z (and_parts (is_of kind.Text z) true parts.1).0 (not-true (is_null z) (and_parts (not (is_null z)) true full).0) in
    (place.0, body.0, three place.1 (null_of y parts.0) body.1)
entry_of schema tree db (x ∷ y ∷ z ∷ w ∷ more) id typed full =
    let parts = and_parts (is_null y) (is_of kind.Text z && false) (and_parts (is_null y && (is_of kind.Text z && false)) true typed).0 in
    absurd (let never = (and_parts (is_of kind.Text z) false parts.1).1 in cc)

equal_from : (o : Ordering) → (not (is_false (from_truth (Some (is_eq o)))) && true) ≡ true → o ≡ Equal
equal_from Less e = absurd cc
equal_from Equal e = refl
equal_from Greater e = absurd cc

-- the CHECK of the owner's row
first_of : (schema : Schema) (tree : ℕ) (n : ℤ) (y z w : Value) (db : Trees) → passes Check schema db (about_table tree) (Int n ∷ y ∷ z ∷ w ∷ []) ≡ true → n ≡ pos 1
unfolding binary
first_of schema tree n y z w db ok =
    let same : int_cmp n (pos 1) ≡ Equal = sym (value_cmp-Int n (pos 1)) ∙ equal_from (value_cmp (Int n) (Int (pos 1))) ok in
    subst (λ o. MatchOrdering o (n <ℤ pos 1) (n ≡ pos 1) (pos 1 <ℤ n)) same (int_ranks n (pos 1))

owner_of : (schema : Schema) (tree : ℕ) (db : Trees) (row : Row) → IsTrue (is_int (rowid row)) → passes Datatype schema db (about_table tree) row ≡ true → passes NotNull schema db (about_table tree) row ≡ true
    → passes Check schema db (about_table tree) row ≡ true → (format : ℤ) × (node : List ℕ) × (row ≡ owned format node)
owner_of schema tree db [] id typed full ok = absurd cc
owner_of schema tree db (x ∷ []) id typed full ok = absurd cc
owner_of schema tree db (x ∷ y ∷ []) id typed full ok = absurd cc
owner_of schema tree db (x ∷ y ∷ z ∷ []) id typed full ok = absurd (let never = (and_parts (not (is_null z)) false full).1 in cc)
owner_of schema tree db (x ∷ y ∷ z ∷ w ∷ []) id typed full ok =
    let place = int_of x id in
    let parts = and_parts (is_null y) (is_of kind.Integer z && (is_of kind.Text w && true)) (and_parts (is_null y && (is_of kind.Integer z && (is_of kind.Text w && true))) true typed).0 in
    let more = and_parts (is_of kind.Integer z) (is_of kind.Text w && true) parts.1 in
    let there = and_parts (not (is_null z)) (not (is_null w) && true) full in
    let format = number_of z more.0 (not-true (is_null z) there.0) in
    let node = text_of w (and_parts (is_of kind.Text w) true more.1).0 (not-true (is_null w) (and_parts (not (is_null w)) true there.1).0) in
    let one = first_of schema tree place.0 y z w db (subst (λ v. passes Check schema db (about_table tree) (v ∷ y ∷ z ∷ w ∷ []) ≡ true) place.1 ok) in
    (format.0, node.0, four (place.1 ∙ ap Int one) (null_of y parts.0) format.1 node.1)
owner_of schema tree db (x ∷ y ∷ z ∷ w ∷ u ∷ more) id typed full ok =
    let parts = and_parts (is_null y) (is_of kind.Integer z && (is_of kind.Text w && false)) (and_parts (is_null y && (is_of kind.Integer z && (is_of kind.Text w && false))) true typed).0 in
    let last = and_parts (is_of kind.Integer z) (is_of kind.Text w && false) parts.1 in
    absurd (let never = (and_parts (is_of kind.Text w) false last.1).1 in cc)

entries_of : (schema : Schema) (tree : ℕ) (db : Trees) (rows : List Row) → AllByRecursion (λ row. IsTrue (is_int (rowid row))) rows → AllByRecursion (λ row. passes Datatype schema db (entries_table tree) row ≡ true) rows
    → AllByRecursion (λ row. passes NotNull schema db (entries_table tree) row ≡ true) rows → AllByRecursion IsEntry rows
entries_of schema tree db [] ids typed full = tt
entries_of schema tree db (row ∷ rows) ids typed full = (entry_of schema tree db row ids.0 typed.0 full.0, entries_of schema tree db rows ids.1 typed.1 full.1)

-- two rows of an owner would have one rowid
one_owner : (schema : Schema) (tree : ℕ) (db : Trees) (rows : List Row) → IsTable rows → AllByRecursion (λ row. IsTrue (is_int (rowid row))) rows
    → AllByRecursion (λ row. passes Datatype schema db (about_table tree) row ≡ true) rows → AllByRecursion (λ row. passes NotNull schema db (about_table tree) row ≡ true) rows
    → AllByRecursion (λ row. passes Check schema db (about_table tree) row ≡ true) rows → (rows ≡ []) ⊎ ((format : ℤ) × (node : List ℕ) × (rows ≡ owned format node ∷ []))
one_owner schema tree db [] rise ids typed full ok = inl refl
one_owner schema tree db (row ∷ []) rise ids typed full ok = let it = owner_of schema tree db row ids.0 typed.0 full.0 ok.0 in inr (it.0, it.1, ap (λ r. r ∷ []) it.2)
one_owner schema tree db (row ∷ other ∷ more) rise ids typed full ok =
    let a = owner_of schema tree db row ids.0 typed.0 full.0 ok.0 in
    let b = owner_of schema tree db other ids.1.0 typed.1.0 full.1.0 ok.1.0 in
    let less : value_cmp (Int (pos 1)) (Int (pos 1)) ≡ Less = subst₂ (λ x y. value_cmp (rowid x) (rowid y) ≡ Less) a.2 b.2 rise.0.0 in
    absurd (let never = sym (value_cmp-Int (pos 1) (pos 1)) ∙ less in cc)

-- the rows that obey the two tables, in an open store
pub rows_of : (order : TableOrder) (v : View) → IsListed (v.trees catalog_tree) v.shape v.reals → IsOrdered v.shape v.trees → IsSound (store_schema order) v.trees → HoldsRows order v.trees
rows_of AboutFirst v listed ordered sound =
    let laid = (laid_out listed (objects_rise v listed ordered) sound.lists.listed).tables in
    let about = subst (λ s. IsShaped s (v.trees 0)) laid.0 (ordered 0) in
    let entries = subst (λ s. IsShaped s (v.trees 1)) laid.1.0 (ordered 1) in
    let rules = sound.obeys.rules in record {
      owner = one_owner (store_schema AboutFirst) 0 v.trees (v.trees 0) about.0 about.1 (rules Datatype).0 (rules NotNull).0 (rules Check).0;
      entries = entries_of (store_schema AboutFirst) 1 v.trees (v.trees 1) entries.1 (rules Datatype).1.0 (rules NotNull).1.0;
      rise = entries.0;
    }
rows_of EntriesFirst v listed ordered sound =
    let laid = (laid_out listed (objects_rise v listed ordered) sound.lists.listed).tables in
    let entries = subst (λ s. IsShaped s (v.trees 0)) laid.0 (ordered 0) in
    let about = subst (λ s. IsShaped s (v.trees 1)) laid.1.0 (ordered 1) in
    let rules = sound.obeys.rules in record {
      owner = one_owner (store_schema EntriesFirst) 1 v.trees (v.trees 1) about.0 about.1 (rules Datatype).1.0 (rules NotNull).1.0 (rules Check).1.0;
      entries = entries_of (store_schema EntriesFirst) 0 v.trees (v.trees 0) entries.1 (rules Datatype).0 (rules NotNull).0;
      rise = entries.0;
    }

-- an open store without a table has no row in the trees of the two tables
pub none_of : (tree : ℕ) → tree < 2 → (v : View) → IsListed (v.trees catalog_tree) v.shape v.reals → IsOrdered v.shape v.trees → IsSound no_schema v.trees → v.trees tree ≡ []
none_of tree low v listed ordered sound = elim (named_tree listed (objects_rise v listed ordered).0 sound.lists.listed tree (λ e. omega (arith, e, low)) (λ e. omega (arith, e, low))) [
  | inl table ↦ absurd table.1
  | inr (inl index) ↦ absurd index.1
  | inr (inr (inl other)) ↦ absurd other.1
  | inr (inr (inr none)) ↦ subst (λ s. IsShaped s (v.trees tree)) none (ordered tree)
]
