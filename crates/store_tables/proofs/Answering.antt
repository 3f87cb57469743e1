-- The query for a stretch of places returns the entries of that stretch, in the order of their places.
use Rattle.std.proofs.Common.{◌≡◌, ℕ, suc, ◌+◌, ◌≤◌, ◌<◌, inl, inr, pos, Bool, true, false, cond, List, [], ◌∷◌, ◌++◌, map, flat_map, filter, get_or, refl, sym, ap, subst, subst₂, ◌∙◌, arith}
use Rattle.std.specs.Prelude.{nat_le, ◌&&◌}
use Rattle.std.specs.declared.cmp.Ordering.{Ordering}
use Rattle.std.specs.declared.cmp.Ordering.TheVariants.{Less, Equal}
use Rattle.std.specs.Ordering.{is_lt, is_le, is_ge, ordering_then}
use Rattle.std.specs.List.{sum_by, AllByRecursion, All}
use Rattle.std.specs.List.Sorted.{IsPermutation, IsSorted}
use Rattle.std.proofs.lemmas.Bool.{cases_lt, le-leb}
use Rattle.std.proofs.lemmas.List.Sorted.{sum_by-IsPermutation}
use Rattle.sqlite.specs.Ops.{binary, is_true}
use Rattle.sqlite_sql.specs.declared.ops.CompareOp.TheVariants.{Ge, Le}
use Rattle.sqlite_sql.specs.declared.ops.BinaryOp.TheVariants.{Compare}
use Rattle.sqlite.specs.declared.types.Value.{Value}
use Rattle.sqlite.specs.declared.types.Value.TheVariants.{Null, Int}
use Rattle.sqlite.specs.Collation.TheVariants.{Binary}
use Rattle.sqlite.specs.Order.{Row, column, value_cmp}
use Rattle.sqlite.specs.Term.{Env}
use Rattle.sqlite.specs.Query.{IsAnswer, Output, output, output_cmp}
use Rattle.sqlite.specs.Program.{overlay}
use Rattle.sqlite.specs.Effect.{Database, Reads}
use Rattle.store_tables.specs.Tables.{entry}
use Rattle.store_tables.specs.Slots.{place_of, body_of, whole_number, AreEntries}
use Rattle.store_tables.specs.Pages.{is_within, shown, rows_within}
use Rattle.units.proofs.Lists.Membership.{In}
use Rattle.units.proofs.Lists.Permutations.{each_moved}
use Rattle.store_tables.proofs.Places.{before, cmp-equal, cmp-greater}
use Rattle.store_tables.proofs.InOrder.{Rise, NeverFall, one-order}
use Rattle.store_tables.proofs.PageTexts.{page_query, page_command}
use Rattle.store_tables.proofs.Stretches.{not-le}

-- the parameters of the query
abbrev pub between : ℕ → ℕ → Row
between first last = Int (pos first) ∷ Int (pos last) ∷ []

-- ---- WHERE

is-ge : (q n : ℕ) → is_ge (value_cmp (Int (pos q)) (Int (pos n))) ≡ nat_le n q
is-ge q n =
    elim (cases_lt q n) [
      | inl low ↦ ap is_ge (before q n low) ∙ sym (not-le n q low)
      | inr up ↦ elim (cases_lt n q) [
        | inl high ↦ ap is_ge (cmp-greater q n high) ∙ sym (le-leb n q (omega (arith, high)))
        | inr down ↦ ap is_ge (cmp-equal q n (omega (arith, up, down))) ∙ sym (le-leb n q (omega (arith, up)))
      ]
    ]

is-le : (q n : ℕ) → is_le (value_cmp (Int (pos q)) (Int (pos n))) ≡ nat_le q n
is-le q n =
    elim (cases_lt n q) [
      | inl high ↦ ap is_le (cmp-greater q n high) ∙ sym (not-le q n high)
      | inr up ↦ elim (cases_lt q n) [
        | inl low ↦ ap is_le (before q n low) ∙ sym (le-leb q n (omega (arith, low)))
        | inr down ↦ ap is_le (cmp-equal q n (omega (arith, up, down))) ∙ sym (le-leb q n (omega (arith, up)))
      ]
    ]

from-truth : (b : Bool) → is_true (Rattle.sqlite.specs.Ops.from_truth (Rattle.std.specs.Prelude.Some b)) ≡ b
from-truth true = refl
from-truth false = refl

ge-is : (q n : ℕ) → is_true (binary (Compare Ge Binary) (Int (pos q)) (Int (pos n))) ≡ nat_le n q
unfolding binary
ge-is q n = from-truth (is_ge (value_cmp (Int (pos q)) (Int (pos n)))) ∙ is-ge q n

le-is : (q n : ℕ) → is_true (binary (Compare Le Binary) (Int (pos q)) (Int (pos n))) ≡ nat_le q n
unfolding binary
le-is q n = from-truth (is_le (value_cmp (Int (pos q)) (Int (pos n)))) ∙ is-le q n

both : (a b : Bool) → (a && (b && true)) ≡ (a && b)
both true true = refl
both true false = refl
both false b = refl

-- the rows of the query, as it filters them
abbrev env_of : Row → Row → Env
env_of params row = params ∷ row ∷ []

abbrev passes : ℕ → ℕ → Row → Bool
passes first last row = is_true (binary (Compare Ge Binary) (column row 0) (Int (pos first))) && (is_true (binary (Compare Le Binary) (column row 0) (Int (pos last))) && true)

passes-is : (first last : ℕ) (row : Row) → row ≡ entry (place_of row) (body_of row) → passes first last row ≡ is_within first last row
passes-is first last row e =
    let q = place_of row in
    let c : column row 0 ≡ Int (pos q) = ap (λ (r : Row). column r 0) e in
    subst (λ (v : Value). (is_true (binary (Compare Ge Binary) v (Int (pos first))) && (is_true (binary (Compare Le Binary) v (Int (pos last))) && true)) ≡ is_within first last row) (sym c)
    (rw (ge-is q first, le-is q last) (both (nat_le first q) (nat_le q last)))

filtered : (first last from : ℕ) (rows : List Row) → AreEntries from rows
    → flat_map (λ (r : Row). cond (passes first last r) (env_of (between first last) r ∷ []) []) rows ≡ map (env_of (between first last)) (filter (is_within first last) rows)
filtered first last from [] h = refl
filtered first last from (row ∷ rows) h =
    rw (passes-is first last row h.1) (go (is_within first last row) (filtered first last (place_of row + 1) rows h.2))
  where
    go : (b : Bool) → flat_map (λ (r : Row). cond (passes first last r) (env_of (between first last) r ∷ []) []) rows ≡ map (env_of (between first last)) (filter (is_within first last) rows)
        → cond b (env_of (between first last) row ∷ []) [] ++ flat_map (λ (r : Row). cond (passes first last r) (env_of (between first last) r ∷ []) []) rows
        ≡ map (env_of (between first last)) (cond b (row ∷ filter (is_within first last) rows) (filter (is_within first last) rows))
    go true e = ap (λ all. env_of (between first last) row ∷ all) e
    go false e = e

-- ---- ORDER BY

-- the key by which a row is sorted, and the result that it gives, for either tree of the entries
abbrev out : Row → Output
out row = (column row 0 ∷ [], shown row)

abbrev key : Output → ℕ
key o = whole_number (column o.0 0)

outputs : (first last : ℕ) (rows : List Row) → map (output (page_query 1)) (map (env_of (between first last)) rows) ≡ map out rows
outputs first last [] = refl
outputs first last (r ∷ rows) = ap (λ all. out r ∷ all) (outputs first last rows)

rise : (first last from : ℕ) (rows : List Row) → AreEntries from rows → Rise key from (map out (filter (is_within first last) rows))
rise first last from [] h = tt
rise first last from (row ∷ rows) h = go (is_within first last row) (rise first last (place_of row + 1) rows h.2)
  where
    weaker : (low high : ℕ) (xs : List Output) → low ≤ high → Rise key high xs → Rise key low xs
    weaker low high [] le r = tt
    weaker low high (x ∷ xs) le r = (let a = r.0 in omega (arith, a, le), r.1)

    go : (b : Bool) → Rise key (place_of row + 1) (map out (filter (is_within first last) rows)) → Rise key from (map out (cond b (row ∷ filter (is_within first last) rows) (filter (is_within first last) rows)))
    go true rest = (h.0, rest)
    go false rest = weaker from (place_of row + 1) (map out (filter (is_within first last) rows)) (let a = h.0 in omega (arith, a)) rest

-- the key of the sort is a place
abbrev HasPlace : Output → Type 0
HasPlace o = column o.0 0 ≡ Int (pos (key o))

has-place : (first last from : ℕ) (rows : List Row) → AreEntries from rows → AllByRecursion HasPlace (map out (filter (is_within first last) rows))
has-place first last from [] h = tt
has-place first last from (row ∷ rows) h = go (is_within first last row) (has-place first last (place_of row + 1) rows h.2)
  where
    go : (b : Bool) → AllByRecursion HasPlace (map out (filter (is_within first last) rows)) → AllByRecursion HasPlace (map out (cond b (row ∷ filter (is_within first last) rows) (filter (is_within first last) rows)))
    go true rest = (ap (λ (r : Row). column r 0) h.1, rest)
    go false rest = rest

not-less : (v w : Value) (m n : ℕ) → v ≡ Int (pos m) → w ≡ Int (pos n) → m < n → is_lt (ordering_then (value_cmp v w) Equal) ≡ false → ⊥
not-less v w m n e f low h =
    let less : value_cmp v w ≡ Less = subst₂ (λ a b. value_cmp a b ≡ Less) (sym e) (sym f) (before m n low) in
    let x : true ≡ false = subst (λ (o : Ordering). is_lt (ordering_then o Equal) ≡ false) less h in
    cc (x)

not-below : (a b : Output) → HasPlace a → HasPlace b → is_lt (output_cmp (page_query 1) a b) ≡ false → key b ≤ key a
not-below a b ha hb h = elim (cases_lt (key a) (key b)) [
  | inl low ↦ absurd (not-less (column a.0 0) (column b.0 0) (key a) (key b) ha hb low h)
  | inr up ↦ up
]

sorted-tail : (x : Output) (xs : List Output) → IsSorted (output_cmp (page_query 1)) (x ∷ xs) → IsSorted (output_cmp (page_query 1)) xs
sorted-tail x xs up = λ k d low lt.
    let e : k + 1 ≡ suc k = omega arith in
    let f : k + 1 + 1 ≡ suc (k + 1) = omega arith in
    subst (λ n. is_lt (output_cmp (page_query 1) (get_or (x ∷ xs) n d) (get_or (x ∷ xs) (suc k) d)) ≡ false) f
    (subst (λ m. is_lt (output_cmp (page_query 1) (get_or (x ∷ xs) (k + 1 + 1) d) (get_or (x ∷ xs) m d)) ≡ false) e (up (k + 1) d (omega arith) (omega (arith, lt))))

-- in the order of a sort, keys never decrease
never : (low : ℕ) (x : Output) (xs : List Output) → AllByRecursion HasPlace (x ∷ xs) → IsSorted (output_cmp (page_query 1)) (x ∷ xs) → low ≤ key x → NeverFall key low (x ∷ xs)
never low x [] at up least = (least, tt)
never low x (y ∷ ys) at up least =
    (least, never (key x) y ys at.1 (sorted-tail x (y ∷ ys) up) (not-below y x at.1.0 at.0 (up 0 x (omega arith) (omega arith))))

never-any : (xs : List Output) → AllByRecursion HasPlace xs → IsSorted (output_cmp (page_query 1)) xs → NeverFall key 0 xs
never-any [] at up = tt
never-any (x ∷ xs) at up = never 0 x xs at up (omega arith)

-- ---- the result

all-is : {X : Type 0} (P : X → Type 0) (xs : List X) → AllByRecursion P xs → (x : X) → In x xs → P x
all-is P [] h x i = absurd i
all-is P (y ∷ ys) h x (inl e) = subst P e h.0
all-is P (y ∷ ys) h x (inr i) = all-is P ys h.1 x i

is-all : {X : Type 0} (P : X → Type 0) (xs : List X) → ((x : X) → In x xs → P x) → AllByRecursion P xs
is-all P [] h = tt
is-all P (y ∷ ys) h = (h y (inl refl), is-all P ys (λ x i. h x (inr i)))

shows : (rows : List Row) → map (λ (o : Output). o.1) (map out rows) ≡ map shown rows
shows [] = refl
shows (r ∷ rows) = ap (λ all. shown r ∷ all) (shows rows)

pub page-shows : (first last tree : ℕ) (db : Database) (rows : List Row) → overlay db.trees [] tree ≡ db.trees tree → AreEntries 0 (db.trees tree) → Reads (page_command tree) db (between first last) rows
    → rows ≡ rows_within first last (db.trees tree)
page-shows first last tree db rows own entries h =
    let params = between first last in
    let all = db.trees tree in
    let a : IsAnswer (page_query tree) (overlay db.trees []) params rows = h.answer Null in
    let found = filter (is_within first last) all in
    let matches : List Row → List Env = flat_map (λ (r : Row). cond (passes first last r) (env_of params r ∷ []) []) in
    let staged : a.staged ≡ map (env_of params) found = a.grouped ∙ ap matches own ∙ filtered first last 0 all entries in
    let kept : a.kept ≡ map out found = a.distinct ∙ ap (map (output (page_query 1))) staged ∙ outputs first last found in
    let moved : IsPermutation (map out found) a.ordered = subst (λ xs. IsPermutation xs a.ordered) kept a.same in
    let at : AllByRecursion HasPlace a.ordered = each_moved HasPlace (map out found) a.ordered moved (has-place first last 0 all entries) in
    let inside = each_moved (λ z. In z (map out found)) (map out found) a.ordered moved (is-all (λ z. In z (map out found)) (map out found) (λ z i. i)) in
    let order : a.ordered ≡ map out found =
    one-order key 0 0 (map out found) a.ordered (rise first last 0 all entries) (never-any a.ordered at a.sorted)
    (λ f. sum_by-IsPermutation f (map out found) a.ordered moved) (λ z i. all-is (λ x. In x (map out found)) a.ordered inside z i) in
    a.shown ∙ ap (map (λ (o : Output). o.1)) order ∙ shows found
