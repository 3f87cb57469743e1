-- What the owner's row and the least place say about both tables.
use Rattle.std.proofs.Common.{◌≡◌, ◌⊎◌, inl, inr, ℕ, zero, suc, ℤ, pos, negsuc, ◌<ℤ◌, ◌≤◌, ◌<◌, ◌+◌, List, [], ◌∷◌, map, flat_map, length, slice_get, slice_index_or, false, Option, Some, None, refl, sym, ap, subst, ◌∙◌, arith}
use Rattle.std.specs.Prelude.{Any}
use Rattle.std.specs.List.{AllByRecursion}
use Rattle.std.specs.List.Sorted.{IsPermutation}
use Rattle.std.proofs.lemmas.List.{nil_from_length}
use Rattle.std.proofs.lemmas.List.Sorted.{IsPermutation-map, length_permutation}
use Rattle.std.proofs.lemmas.List.Elements.{recursion_from_All}
use Rattle.std.specs.declared.cmp.Ordering.TheVariants.{Less}
use Rattle.std.specs.Cmp.{int_ranks}
use Rattle.std.specs.Ordering.{MatchOrdering}
use Rattle.std.proofs.lemmas.Int.{ints}
use Rattle.store_tables.proofs.OrderLemmas.{value_cmp-Int}
use Rattle.sqlite.specs.declared.types.Value.TheVariants.{Null, Int, Text as Words}
use Rattle.sqlite.specs.Order.{Row, column, value_cmp}
use Rattle.sqlite.specs.Tree.{IsTable, rowid}
use Rattle.sqlite.specs.Edit.{id_in}
use Rattle.std.proofs.lemmas.Bool.{cases_lt}
use Rattle.sqlite.specs.Query.{IsAnswer, Output, output}
use Rattle.sqlite.specs.Term.{Env}
use Rattle.sqlite.specs.Program.{overlay}
use Rattle.sqlite.specs.Effect.{Database, Reads}
use Rattle.sqlite.proofs.Callers.{one_permutation}
use Rattle.wire.specs.Records.{number_of}
use Rattle.store_tables.specs.declared.owner_row.FileOwner.{FileOwner}
use Rattle.store_tables.specs.declared.owner_row.FileOwner.TheVariants.{Nobody, OtherFormat, OtherNode, ThisNode}
use Rattle.store_tables.specs.Tables.{TableOrder, about_tree, entries_tree, store_schema}
use Rattle.store_tables.specs.Slots.{place_of, body_of, AreEntries}
use Rattle.store_tables.specs.OwnerRow.{IsOwnerIn}
use Rattle.durable.specs.Opening.{HasRows, IsLeastOrGreatest, places_in, IsNoStore, HasNegativePlace, IsOwner, IsNegative}
use Rattle.store_tables.specs.Rows.{owned, IsEntry}
use Rattle.durable.proofs.Ends.{envs}
use Rattle.store_tables.proofs.Orders.{same_order, own_row}
use Rattle.durable.proofs.OpeningTexts.{shows, owner_query}

abbrev shown : Row → Row
shown row = column row 2 ∷ column row 3 ∷ []

shows_all : (rows : List Row) → map (λ (o : Output). o.1) (map (output (owner_query 0)) (map (λ (r : Row). [] ∷ r ∷ []) rows)) ≡ map shown rows
shows_all [] = refl
shows_all (r ∷ rows) = ap (λ more. shown r ∷ more) (shows_all rows)

permutes : (names : List (List ℕ)) (tree : ℕ) (db : Database) (rows : List Row) → overlay db.trees [] tree ≡ db.trees tree → Reads (shows (owner_query tree) names) db [] rows
    → IsPermutation (map shown (db.trees tree)) rows
permutes names tree db rows own h =
    let all = db.trees tree in
    let a : IsAnswer (owner_query tree) (overlay db.trees []) [] rows = h.answer Null in
    let matches : List Row → List Env = flat_map (λ (r : Row). ([] ∷ r ∷ []) ∷ []) in
    let kept : a.kept ≡ map (output (owner_query 0)) (map (λ (r : Row). [] ∷ r ∷ []) all) = a.distinct ∙ ap (map (output (owner_query 0))) (a.grouped ∙ ap matches own ∙ envs all) in
    let moved = IsPermutation-map (λ (o : Output). o.1) a.kept a.ordered a.same in
    let from = ap (map (λ (o : Output). o.1)) kept ∙ shows_all all in
    subst (IsPermutation (map shown all)) (sym a.shown) (subst (λ xs. IsPermutation xs (map (λ (o : Output). o.1) a.ordered)) from moved)

shown_or_none : (db rows : List Row) → IsPermutation (map shown db) rows → (db ≡ []) ⊎ ((format : ℤ) × (node : List ℕ) × (db ≡ owned format node ∷ []))
    → ((db ≡ []) × (rows ≡ [])) ⊎ ((format : ℤ) × (node : List ℕ) × (db ≡ owned format node ∷ []) × (rows ≡ (Int format ∷ Words node ∷ []) ∷ []))
shown_or_none db rows same (inl none) = inl (none, nil_from_length rows (length_permutation [] rows (subst (λ xs. IsPermutation (map shown xs) rows) none same)))
shown_or_none db rows same (inr it) =
    inr (it.0, it.1, it.2, one_permutation (Int it.0 ∷ Words it.1 ∷ []) rows (subst (λ xs. IsPermutation (map shown xs) rows) it.2 same))

first_is : (rows : List Row) (row : Row) (format : ℤ) (name : List ℕ) → slice_get rows 0 ≡ Some row → rows ≡ (Int format ∷ Words name ∷ []) ∷ [] → row ≡ Int format ∷ Words name ∷ []
first_is rows row format name first is = let e = sym first ∙ ap (λ xs. slice_get xs 0) is in cc

only_row : (rows : List Row) (row : Row) (format : ℤ) (name : List ℕ) → rows ≡ row ∷ [] → rows ≡ owned format name ∷ [] → row ≡ owned format name
only_row rows row format name a b = let e = sym a ∙ b in cc

told : (node : List ℕ) (order : TableOrder) (db : Database) (rows : List Row) (owner : FileOwner) → db.schema ≡ store_schema order → IsOwnerIn node rows owner
    → ((db.trees (about_tree order) ≡ []) × (rows ≡ [])) ⊎ ((format : ℤ) × (name : List ℕ) × (db.trees (about_tree order) ≡ owned format name ∷ []) × (rows ≡ (Int format ∷ Words name ∷ []) ∷ []))
    → IsOwner node db owner
told node order db rows Nobody has is (inl none) = (order, has, none.0)
told node order db rows Nobody has is (inr it) = absurd (let never : (Int it.0 ∷ Words it.1 ∷ []) ∷ [] ≡ [] = sym it.3 ∙ is in cc)
told node order db rows OtherFormat has is (inl none) = absurd (let never = sym is.1 ∙ ap (λ xs. slice_get xs 0) none.1 in cc)
told node order db rows OtherFormat has is (inr it) =
    let same = first_is rows is.0 it.0 it.1 is.1 it.3 in
    (order, has, owned it.0 it.1, it.2, λ format e. is.2 format (ap (λ (row : Row). column row 0) same ∙ e))
told node order db rows OtherNode has is (inl none) = absurd (let never = sym is.1 ∙ ap (λ xs. slice_get xs 0) none.1 in cc)
told node order db rows OtherNode has is (inr it) =
    let same = first_is rows is.0 it.0 it.1 is.1 it.3 in
    let format : Int it.0 ≡ Int (pos (number_of is.2.0)) = sym (ap (λ (row : Row). column row 0) same) ∙ is.2.1 in (
      λ other.
          let theirs : db.trees (about_tree order) ≡ other.2 ∷ [] = subst (λ (o : TableOrder). db.trees (about_tree o) ≡ other.2 ∷ []) (same_order db.schema other.0 order other.1 has) other.3 in
          other.4 is.2.0 (ap (λ (row : Row). column row 2) (only_row (db.trees (about_tree order)) other.2 it.0 it.1 theirs it.2) ∙ format),
      (order, has, owned it.0 it.1, it.2, λ e. is.3 (ap (λ (row : Row). column row 1) same ∙ e)),
    )
told node order db rows (ThisNode format) has is (inl none) = absurd (let never = sym is.1 ∙ ap (λ xs. slice_get xs 0) none.1 in cc)
told node order db rows (ThisNode format) has is (inr it) =
    let same = first_is rows is.0 it.0 it.1 is.1 it.3 in
    let number : Int it.0 ≡ Int (pos (number_of format)) = sym (ap (λ (row : Row). column row 0) same) ∙ is.2 in
    let name : Words it.1 ≡ Words node = sym (ap (λ (row : Row). column row 1) same) ∙ is.3 in
    (order, has, it.2 ∙ (rw (number, name) refl))

pub owner_told : (node : List ℕ) (names : List (List ℕ)) (db : Database) (rows : List Row) (owner : FileOwner) (has : HasRows db) → Reads (shows (owner_query (about_tree has.0)) names) db [] rows
    → IsOwnerIn node rows owner → IsOwner node db owner
owner_told node names db rows owner has reads is =
    let tree = about_tree has.0 in
    told node has.0 db rows owner has.1 is (shown_or_none (db.trees tree) rows (permutes names tree db rows (own_row db.trees has.0) reads) has.2.owner)

below : (x y : ℤ) → value_cmp (Int x) (Int y) ≡ Less → x <ℤ y
below x y e = subst (λ o. MatchOrdering o (x <ℤ y) (x ≡ y) (y <ℤ x)) (sym (value_cmp-Int x y) ∙ e) (int_ranks x y)

-- rows after a place are not below the next
above : (n : ℕ) (rows : List Row) → AllByRecursion IsEntry rows → AllByRecursion (λ r. value_cmp (Int (pos n)) (rowid r) ≡ Less) rows → AllByRecursion (λ m. m <ℤ pos (n + 1) → ⊥) (places_in rows)
above n [] are less = tt
above n (r ∷ rows) are less =
    let id : column r 0 ≡ Int are.0.0 = ap (λ (x : Row). column x 0) are.0.2 in
    let up = below (pos n) are.0.0 (sym (ap (value_cmp (Int (pos n))) id) ∙ less.0) in
    (subst (λ m. m <ℤ pos (n + 1) → ⊥) (sym (ap id_in id)) (λ low. omega (arith, ints, up, low)), above n rows are.1 less.1)

-- rows whose places rise, from a place on, are entries
pub entries_from : (from : ℕ) (rows : List Row) → AllByRecursion IsEntry rows → IsTable rows → AllByRecursion (λ m. m <ℤ pos from → ⊥) (places_in rows) → AreEntries from rows
entries_from from [] are rise low = tt
entries_from from (row ∷ rows) are rise low = go (λ n high. entries_from (n + 1) rows are.1 rise.1 high) are.0.0 are.0.1 are.0.2
  where
    go : ((n : ℕ) → AllByRecursion (λ m. m <ℤ pos (n + 1) → ⊥) (places_in rows) → AreEntries (n + 1) rows) → (z : ℤ) (b : List ℕ) → row ≡ Int z ∷ Null ∷ Words b ∷ [] → AreEntries from (row ∷ rows)
    go next (negsuc n) b is = absurd (let out = subst (λ m. m <ℤ pos from → ⊥) (ap (λ (x : Row). id_in (column x 0)) is) low.0 in out (omega (arith, ints)))
    go next (pos n) b is =
        let place : place_of row ≡ n = ap place_of is in
        let body : body_of row ≡ b = ap body_of is in
        let out = subst (λ m. m <ℤ pos from → ⊥) (ap (λ (x : Row). id_in (column x 0)) is) low.0 in
        let high : from ≤ n = (elim (cases_lt n from) [ inl lt ↦ absurd (out (omega (arith, ints, lt))) | inr ge ↦ ge ]) in
        let less = subst (λ (x : Row). AllByRecursion (λ r. value_cmp (rowid x) (rowid r) ≡ Less) rows) is rise.0 in (
          omega (arith, high, place),
          is ∙ rw (place, body) refl,
          subst (λ m. AreEntries (m + 1) rows) (sym place) (next n (above n rows are.1 less)),
        )

-- a row that has one of the places
row_with : (rows : List Row) (k : ℕ) (z : ℤ) → AllByRecursion IsEntry rows → k < length (places_in rows) → slice_index_or (places_in rows) k z ≡ z → Any (λ row. column row 0 ≡ Int z) rows
row_with [] k z are low is = absurd (omega (arith, low))
row_with (row ∷ rows) zero z are low is =
    let id : column row 0 ≡ Int are.0.0 = ap (λ (x : Row). column x 0) are.0.2 in
    (0, row, omega arith, refl, id ∙ ap Int (sym (ap id_in id) ∙ is))
row_with (row ∷ rows) (suc k) z are low is =
    let it = row_with rows k z are.1 (omega (arith, low)) is in
    (suc it.0, it.1, omega (arith, it.2), it.3, it.4)

pub negative : (db : Database) (place : ℤ) (has : HasRows db) → IsLeastOrGreatest false (db.trees (entries_tree has.0)) (Some place) → place <ℤ pos 0 → HasNegativePlace db
negative db (pos n) has end low = absurd (omega (arith, ints, low))
negative db (negsuc n) has end low =
    let it = row_with (db.trees (entries_tree has.0)) end.0.0 (negsuc n) has.2.entries end.0.1 end.0.2 in
    (has.0, has.1, (it.0, it.1, it.2, it.3, (n, it.4)))

none_low : (rows : List ℤ) (place : ℤ) → (place <ℤ pos 0 → ⊥) → AllByRecursion (λ n. n <ℤ place → ⊥) rows → AllByRecursion (λ n. n <ℤ pos 0 → ⊥) rows
none_low [] place high all = tt
none_low (n ∷ rows) place high all = (λ low. grind (arith, ints, high, all.0, low), none_low rows place high all.1)

pub not_low : (rows : List Row) (least : Option ℤ) → (IsNegative least → ⊥) → IsLeastOrGreatest false rows least → AllByRecursion (λ n. n <ℤ pos 0 → ⊥) (places_in rows)
not_low rows None high end = subst (λ all. AllByRecursion (λ n. n <ℤ pos 0 → ⊥) (places_in all)) (sym end) tt
not_low rows (Some place) high end = none_low (places_in rows) place high (recursion_from_All (λ n. n <ℤ place → ⊥) (places_in rows) end.1)

id_of : (rows : List Row) (k : ℕ) (x : Row) → AllByRecursion (λ n. n <ℤ pos 0 → ⊥) (places_in rows) → k < length rows → slice_index_or rows k x ≡ x → id_in (column x 0) <ℤ pos 0 → ⊥
id_of [] k x all low is = absurd (omega (arith, low))
id_of (row ∷ rows) zero x all low is = subst (λ (r : Row). id_in (column r 0) <ℤ pos 0 → ⊥) is all.0
id_of (row ∷ rows) (suc k) x all low is = id_of rows k x all.1 (omega (arith, low)) is

-- with an owner, and no place below 0, it is a store
pub some_store : (order : TableOrder) (db : Database) (row : Row) (least : Option ℤ) → db.schema ≡ store_schema order → db.trees (about_tree order) ≡ row ∷ [] → (IsNegative least → ⊥)
    → IsLeastOrGreatest false (db.trees (entries_tree order)) least → IsNoStore db → ⊥
some_store order db row least has owner high end (inl others) = others.1 (order, has)
some_store order db row least has owner high end (inr (inl nobody)) =
    let none : db.trees (about_tree order) ≡ [] = subst (λ (o : TableOrder). db.trees (about_tree o) ≡ []) (same_order db.schema nobody.0 order nobody.1 has) nobody.2 in
    let never : [] ≡ row ∷ [] = sym none ∙ owner in
    cc (never)
some_store order db row least has owner high end (inr (inr low)) =
    let rows = db.trees (entries_tree order) in
    let all = not_low rows least high end in
    let it = subst (λ (o : TableOrder). Any (λ (r : Row). (n : ℕ) × (column r 0 ≡ Int (negsuc n))) (db.trees (entries_tree o))) (same_order db.schema low.0 order low.1 has) low.2 in
    id_of rows it.0 it.1 all it.2 it.3 (subst (λ v. id_in v <ℤ pos 0) (sym it.4.1) (omega (arith, ints)))
