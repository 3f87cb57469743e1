-- The first row of the records by their places, in either direction, has the least place or the greatest.
use Rattle.std.proofs.Common.{◌≡◌, ℕ, suc, ℤ, ◌<ℤ◌, ◌+◌, List, [], ◌∷◌, map, flat_map, take, slice_get, slice_index_or, Bool, true, false, Option, Some, None, refl, sym, ap, subst, ◌∙◌, arith}
use Rattle.std.specs.Prelude.{All}
use Rattle.std.specs.List.{AllByRecursion, Contains}
use Rattle.std.specs.List.Sorted.{IsPermutation, IsSorted}
use Rattle.std.specs.Ordering.{is_lt, ordering_then}
use Rattle.std.specs.declared.cmp.Ordering.{Ordering}
use Rattle.std.specs.declared.cmp.Ordering.TheVariants.{Less, Equal}
use Rattle.std.specs.Cmp.{int_cmp_is}
use Rattle.std.proofs.lemmas.Int.{ints}
use Rattle.std.proofs.lemmas.List.{nil_from_length, length-map}
use Rattle.std.proofs.lemmas.List.Sorted.{IsPermutation-map, IsPermutation-sym, All-permutation, Contains-permutation, length_permutation}
use Rattle.std.proofs.lemmas.List.Elements.{All-from_recursion, recursion_from_All, All-map}
use Rattle.store_tables.proofs.OrderLemmas.{value_cmp-Int}
use Rattle.sqlite.specs.declared.types.Value.TheVariants.{Null, Int}
use Rattle.sqlite.specs.Order.{Row, column, value_cmp}
use Rattle.sqlite.specs.Query.{IsAnswer, Output, output, output_cmp}
use Rattle.sqlite.specs.Term.{Env}
use Rattle.sqlite.specs.Program.{overlay}
use Rattle.sqlite.specs.Effect.{Database, Reads}
use Rattle.sqlite.specs.Edit.{id_in}
use Rattle.durable.specs.Opening.{places_in, comes_before, IsLeastOrGreatest}
use Rattle.store_tables.specs.Rows.{IsEntry}
use Rattle.store_tables.specs.OwnerRow.{IsPlaceIn}
use Rattle.durable.proofs.OpeningTexts.{first_row, shows}

pub envs : (rows : List Row) → flat_map (λ (r : Row). ([] ∷ r ∷ []) ∷ []) rows ≡ map (λ (r : Row). [] ∷ r ∷ []) rows
envs [] = refl
envs (r ∷ rows) = ap (λ more. ([] ∷ r ∷ []) ∷ more) (envs rows)

-- the key by which a row is sorted, and the result that it gives
abbrev out : ℤ → Output
out place = (Int place ∷ [], Int place ∷ [])

abbrev out_of : Row → Output
out_of row = (column row 0 ∷ [], column row 0 ∷ [])

abbrev IsOut : Output → Type 0
IsOut o = (place : ℤ) × (o ≡ out place)

abbrev key : Output → ℤ
key o = id_in (column o.0 0)

-- result rows that are sorted by their places
pub record IsByPlace (descending : Bool) (entries rows : List Row) : Type 0 where
  pub ordered : List Output
  pub same : IsPermutation (map out_of entries) ordered
  pub sorted : IsSorted (output_cmp (first_row 1 descending)) ordered
  pub shown : rows ≡ take 1 (map (λ (o : Output). o.1) ordered)

outputs : (descending : Bool) (rows : List Row) → map (output (first_row 1 descending)) (map (λ (r : Row). [] ∷ r ∷ []) rows) ≡ map out_of rows
outputs descending [] = refl
outputs descending (r ∷ rows) = ap (λ more. out_of r ∷ more) (outputs descending rows)

pub by_place : (descending : Bool) (tree : ℕ) (names : List (List ℕ)) (db : Database) (rows : List Row) → overlay db.trees [] tree ≡ db.trees tree
    → Reads (shows (first_row tree descending) names) db [] rows → IsByPlace descending (db.trees tree) rows
by_place descending tree names db rows own h =
    let all = db.trees tree in
    let a : IsAnswer (first_row tree descending) (overlay db.trees []) [] rows = h.answer Null in
    let matches : List Row → List Env = flat_map (λ (r : Row). ([] ∷ r ∷ []) ∷ []) in
    let kept : a.kept ≡ map out_of all = a.distinct ∙ ap (map (output (first_row 1 descending))) (a.grouped ∙ ap matches own ∙ envs all) ∙ outputs descending all in
    record { ordered = a.ordered; same = subst (λ xs. IsPermutation xs a.ordered) kept a.same; sorted = a.sorted; shown = a.shown }

rising : (x y : ℤ) → is_lt (ordering_then (value_cmp (Int y) (Int x)) Equal) ≡ false → y <ℤ x → ⊥
rising x y e less = let is : value_cmp (Int y) (Int x) ≡ Less = value_cmp-Int y x ∙ sym (int_cmp_is y x Less less) in absurd (let never = rw is at e in cc)

in_order : (descending : Bool) (x y : ℤ) → is_lt (output_cmp (first_row 1 descending) (out y) (out x)) ≡ false → comes_before descending y x → ⊥
in_order false x y e less = rising x y e less
in_order true x y e less = rising y x e less

up : (x y z : ℤ) → (y <ℤ x → ⊥) → (z <ℤ y → ⊥) → z <ℤ x → ⊥
up x y z a b h = grind (arith, ints, a, b, h)

then_after : (descending : Bool) (x y z : ℤ) → (comes_before descending y x → ⊥) → (comes_before descending z y → ⊥) → comes_before descending z x → ⊥
then_after false x y z a b = up x y z a b
then_after true x y z a b = up z y x b a

not_itself : (descending : Bool) (x : ℤ) → comes_before descending x x → ⊥
not_itself false x h = omega (arith, ints, h)
not_itself true x h = omega (arith, ints, h)

sorted_rest : {X : Type 0} (cmp : X → X → Ordering) (x : X) (xs : List X) → IsSorted cmp (x ∷ xs) → IsSorted cmp xs
sorted_rest cmp x xs h k d low less =
    let next : suc k + 1 ≡ suc (k + 1) = omega arith in
    subst (λ n. is_lt (cmp (slice_index_or (x ∷ xs) n d) (slice_index_or xs k d)) ≡ false) next (h (suc k) d (omega arith) (omega (arith, less)))

-- no row of a sorted list comes before its first row
none_before : (descending : Bool) (o : Output) (more : List Output) → AllByRecursion IsOut (o ∷ more) → IsSorted (output_cmp (first_row 1 descending)) (o ∷ more)
    → AllByRecursion (λ p. comes_before descending (key p) (key o) → ⊥) (o ∷ more)
none_before descending o [] are sorted = (not_itself descending (key o), tt)
none_before descending o (p ∷ more) are sorted =
    let a = are.0.1 in
    let b = are.1.0.1 in
    let e : is_lt (output_cmp (first_row 1 descending) p o) ≡ false = sorted 0 o (omega arith) (omega arith) in
    let first : comes_before descending are.1.0.0 are.0.0 → ⊥ = in_order descending are.0.0 are.1.0.0 (subst (λ x. is_lt (output_cmp (first_row 1 descending) (out are.1.0.0) x) ≡ false) a (subst (λ x. is_lt (output_cmp (first_row 1 descending) x o) ≡ false) b e)) in
    let step : comes_before descending (key p) (key o) → ⊥ = subst (λ (x : Output). comes_before descending (key p) (key x) → ⊥) (sym a) (subst (λ (x : Output). comes_before descending (key x) are.0.0 → ⊥) (sym b) first) in
    (not_itself descending (key o), weaker (p ∷ more) (none_before descending p more are.1 (sorted_rest (output_cmp (first_row 1 descending)) o (p ∷ more) sorted)) step)
  where
    weaker : (all : List Output) → AllByRecursion (λ q. comes_before descending (key q) (key p) → ⊥) all → (comes_before descending (key p) (key o) → ⊥)
        → AllByRecursion (λ q. comes_before descending (key q) (key o) → ⊥) all
    weaker [] h step = tt
    weaker (q ∷ all) h step = (then_after descending (key o) (key p) (key q) step h.0, weaker all h.1 step)

keys : (rows : List Row) → map key (map out_of rows) ≡ places_in rows
keys [] = refl
keys (row ∷ rows) = ap (λ more. id_in (column row 0) ∷ more) (keys rows)

outs : (rows : List Row) → AllByRecursion IsEntry rows → AllByRecursion IsOut (map out_of rows)
outs [] h = tt
outs (row ∷ rows) h = ((h.0.0, ap out_of h.0.2), outs rows h.1)

at_end : (descending : Bool) (entries : List Row) (ordered : List Output) (rows : List Row) (found : Option ℤ) → AllByRecursion IsEntry entries → IsPermutation (map out_of entries) ordered
    → IsSorted (output_cmp (first_row 1 descending)) ordered → rows ≡ take 1 (map (λ (o : Output). o.1) ordered) → IsPlaceIn rows found → IsLeastOrGreatest descending entries found
at_end descending entries [] rows None are same sorted shown found = nil_from_length entries (sym (length_permutation (map out_of entries) [] same ∙ length-map entries out_of))
at_end descending entries [] rows (Some place) are same sorted shown found = absurd (let never = rw shown at found.1 in cc)
at_end descending entries (o ∷ more) rows None are same sorted shown found = absurd (let never : o.1 ∷ [] ≡ [] = sym shown ∙ found in cc)
at_end descending entries (o ∷ more) rows (Some place) are same sorted shown found =
    let outputs_are = recursion_from_All IsOut (o ∷ more) (All-permutation IsOut (map out_of entries) (o ∷ more) same (All-from_recursion IsOut (map out_of entries) (outs entries are))) in
    let first : found.0 ≡ o.1 = (let e = sym found.1 ∙ ap (λ xs. slice_get xs 0) shown in cc) in
    let shows_it : Int outputs_are.0.0 ≡ Int place = sym (ap (λ (p : Output). column p.1 0) outputs_are.0.1) ∙ sym (ap (λ (row : Row). column row 0) first) ∙ found.2 in
    let is : key o ≡ place = ap key outputs_are.0.1 ∙ ap id_in shows_it in
    let moved = IsPermutation-map key (map out_of entries) (o ∷ more) same in
    let back = IsPermutation-sym (map key (map out_of entries)) (map key (o ∷ more)) moved in
    let P : ℤ → Type 0 = λ n. comes_before descending n (key o) → ⊥ in
    let all = All-permutation P (map key (o ∷ more)) (map key (map out_of entries)) back (All-map P key (o ∷ more) (All-from_recursion (λ p. P (key p)) (o ∷ more) (none_before descending o more outputs_are sorted))) in
    let there = Contains-permutation (map key (o ∷ more)) (map key (map out_of entries)) (key o) back (0, omega arith, refl) in
    subst (λ z. IsLeastOrGreatest descending entries (Some z)) is (subst (λ zs. Contains zs (key o) × All P zs) (keys entries) (there, all))

pub ended : (descending : Bool) (entries rows : List Row) (found : Option ℤ) → AllByRecursion IsEntry entries → IsByPlace descending entries rows → IsPlaceIn rows found → IsLeastOrGreatest descending entries found
ended descending entries rows found are h place = at_end descending entries h.ordered rows found are h.same h.sorted h.shown place
