-- A property of all notes, or of one of them, in any order, is a property of the notes of all seats, or of one seat.
use Rattle.std.proofs.Common.{◌≡◌, ℕ, zero, suc, ◌+◌, ◌<◌, List, [], ◌∷◌, ◌++◌, length, get_or, take, map, sym, ap, subst, refl, ◌∙◌, arith, Option, Some, None, Result, Ok, Err, IfOk, MatchOption}
use Rattle.std.specs.Prelude.{Contains, IsPermutation}
use Rattle.std.specs.List.{All, AllByRecursion, Any, flat_map, slice_index_or}
use Rattle.std.proofs.lemmas.Grind.{flat_map-append}
use Rattle.std.proofs.lemmas.List.{append_assoc, append-nil, map_push, take_more}
use Rattle.std.proofs.lemmas.List.Elements.{All-from_recursion, recursion_from_All}
use Rattle.std.proofs.lemmas.List.Sorted.{All-permutation, IsPermutation-sym}
use Rattle.units.proofs.Lists.Membership.{In, In_flat_map, map_In}
use Rattle.units.proofs.Lists.Positions.{In_contains, contains_in}
use Rattle.units.specs.declared.code.Node.{Node}
use Rattle.wire.specs.declared.input.Input.{Input}
use Rattle.scheme.specs.declared.registries.Scheme.{Scheme}
use Rattle.node_state.specs.declared.notes.Note.{Note}
use Rattle.settling.specs.Settling.{AllBorne, Bears, SomeUnborne}
use Rattle.node_state.specs.Views.{SeatView}

-- ---- in another order

all_back : {X : Type 0} (P : X → Type 0) (xs ys : List X) → IsPermutation xs ys → All P ys → All P xs
all_back P xs ys moved all = All-permutation P ys xs (IsPermutation-sym xs ys moved) all

index_same : {X : Type 0} (xs : List X) (k : ℕ) (d : X) → k < length xs → slice_index_or xs k (slice_index_or xs k d) ≡ slice_index_or xs k d
index_same [] k d below = refl
index_same (x ∷ xs) zero d below = refl
index_same (x ∷ xs) (suc k) d below = index_same xs k d (omega arith)

some_back : {X : Type 0} (P : X → Type 0) (xs ys : List X) → IsPermutation xs ys → Any P ys → Any P xs
some_back {X} P xs ys moved some =
    let k = some.0 in
    let x = some.1 in
    let own : All (Contains xs) xs = λ i d below. (i, below, index_same xs i d below) in
    let found : Contains xs (slice_index_or ys k x) = All-permutation (Contains xs) xs ys moved own k x some.2 in
    let here : Contains xs x = subst (Contains xs) some.3 found in
    (here.0, x, here.1, here.2, some.4)

-- ---- in the lists of each

left_part : {X : Type 0} (P : X → Type 0) (xs ys : List X) → AllByRecursion P (xs ++ ys) → AllByRecursion P xs × AllByRecursion P ys
left_part P [] ys all = (tt, all)
left_part P (x ∷ xs) ys all = let rest = left_part P xs ys all.1 in ((all.0, rest.0), rest.1)

each_of : {X A : Type 0} (f : X → List A) (P : A → Type 0) (xs : List X) → AllByRecursion P (flat_map f xs) → AllByRecursion (λ x. All P (f x)) xs
each_of f P [] all = tt
each_of f P (x ∷ xs) all = let parts = left_part P (f x) (flat_map f xs) all in (All-from_recursion P (f x) parts.0, each_of f P xs parts.1)

any_at : {X : Type 0} (P : X → Type 0) (xs : List X) (x : X) → In x xs → P x → Any P xs
any_at P xs x member p = let k = contains_in xs x member in (k.0, x, k.1, k.2, p)

-- ---- both

pub all_of_each : {X A : Type 0} (f : X → List A) (P : A → Type 0) (xs : List X) (ys : List A) → IsPermutation (flat_map f xs) ys → All P ys → All (λ x. All P (f x)) xs
all_of_each f P xs ys moved all =
    All-from_recursion (λ x. All P (f x)) xs (each_of f P xs (recursion_from_All P (flat_map f xs) (all_back P (flat_map f xs) ys moved all)))

pub some_of_one : {X A : Type 0} (f : X → List A) (P : A → Type 0) (xs : List X) (ys : List A) → IsPermutation (flat_map f xs) ys → Any P ys → Any (λ x. Any P (f x)) xs
some_of_one f P xs ys moved some =
    let back = some_back P (flat_map f xs) ys moved some in
    let found = In_flat_map f back.1 xs (In_contains (flat_map f xs) back.1 (back.0, back.2, back.3)) in
    any_at (λ x. Any P (f x)) xs found.0 found.1 (any_at P (f found.0) back.1 found.2 back.4)

-- ---- seen through references

all_seen : {X Y : Type 0} (g : X → Y) (P : Y → Type 0) (xs : List X) → AllByRecursion (λ x. P (g x)) xs → AllByRecursion P (map g xs)
all_seen g P [] all = tt
all_seen g P (x ∷ xs) all = (all.0, all_seen g P xs all.1)

all_meant : {X Y : Type 0} (g : X → Y) (P : Y → Type 0) (xs : List X) → AllByRecursion P (map g xs) → AllByRecursion (λ x. P (g x)) xs
all_meant g P [] all = tt
all_meant g P (x ∷ xs) all = (all.0, all_meant g P xs all.1)

pub all_before : {X Y : Type 0} (g : X → Y) (P : Y → Type 0) (xs : List X) → All P (map g xs) → All (λ x. P (g x)) xs
all_before g P xs all = All-from_recursion (λ x. P (g x)) xs (all_meant g P xs (recursion_from_All P (map g xs) all))

all_after : {X Y : Type 0} (g : X → Y) (P : Y → Type 0) (xs : List X) → All (λ x. P (g x)) xs → All P (map g xs)
all_after g P xs all = All-from_recursion P (map g xs) (all_seen g P xs (recursion_from_All (λ x. P (g x)) xs all))

some_after : {X Y : Type 0} (g : X → Y) (P : Y → Type 0) (xs : List X) → Any (λ x. P (g x)) xs → Any P (map g xs)
some_after g P xs some = any_at P (map g xs) (g some.1) (map_In g some.1 xs (In_contains xs some.1 (some.0, some.2, some.3))) some.4

-- a property found of the notes in their sorted order holds of the notes of the seats
module _ {X : Type 0} (seen : X → Note) (scheme : Scheme) (n : Node) (seats : List SeatView) (notes : List X) where
  abbrev Found : List Input → Option ℕ → Type 0
  Found journal found = MatchOption found (All (λ x. Bears scheme n journal (seen x)) notes) (λ len. Any (λ x. ((seen x).length ≡ len) × (Bears scheme n journal (seen x) → ⊥)) notes)

  abbrev FoundInSeats : List Input → Option ℕ → Type 0
  FoundInSeats journal found = MatchOption found (All (AllBorne scheme n journal) seats) (λ len. Any (SomeUnborne scheme n journal len) seats)

  found_among : {E : Type 0} (journal : List Input) → IsPermutation (flat_map (λ (s : SeatView). s.notes) seats) (map seen notes) → (result : Result (Option ℕ) E) → IfOk result (Found journal) → IfOk result (FoundInSeats journal)
  found_among journal moved (Err e) h = tt
  found_among journal moved (Ok None) h =
      all_of_each (λ (s : SeatView). s.notes) (Bears scheme n journal) seats (map seen notes) moved (all_after seen (Bears scheme n journal) notes h)
  found_among journal moved (Ok (Some len)) h =
      let P : Note → Type 0 = λ note. (note.length ≡ len) × (Bears scheme n journal note → ⊥) in
      some_of_one (λ (s : SeatView). s.notes) P seats (map seen notes) moved (some_after seen P notes h)

  pub found_in_seats : {E : Type 0} (lent journal : List Input) → lent ≡ journal → IsPermutation (flat_map (λ (s : SeatView). s.notes) seats) (map seen notes)
      → (result : Result (Option ℕ) E) → IfOk result (Found lent) → IfOk result (FoundInSeats journal)
  found_in_seats lent journal journals moved result h = found_among journal moved result (subst (λ (j : List Input). IfOk result (Found j)) journals h)

-- ---- one after another

-- one note more
pub one_noted : {X Y : Type 0} (g : X → Y) (now old : List X) (x : X) (ys : List Y) (i : ℕ) (y : Y) → i < length ys → y ≡ get_or ys i y → g x ≡ y
    → map g now ≡ map g old ++ take i ys → map g (now ++ x ∷ []) ≡ map g old ++ take (i + 1) ys
one_noted g now old x ys i y lt is same so_far =
    map_push g now x ∙ ap (λ l. l ++ g x ∷ []) so_far ∙ append_assoc (map g old) (take i ys) (g x ∷ [])
    ∙ ap (λ l. map g old ++ l) (ap (λ z. take i ys ++ z ∷ []) (same ∙ is) ∙ sym (take_more ys i y lt))

-- the notes of one seat more
pub seat_noted : {X Y A : Type 0} (g : X → A) (f : Y → List A) (now old : List X) (ys : List Y) (i : ℕ) (y : Y) (more : List A) → i < length ys → y ≡ get_or ys i y → more ≡ f y
    → map g now ≡ map g old ++ more → map g old ≡ flat_map f (take i ys) → map g now ≡ flat_map f (take (i + 1) ys)
seat_noted g f now old ys i y more lt is same added so_far =
    let d = get_or ys i y in
    added ∙ ap (λ l. l ++ more) so_far ∙ ap (λ l. flat_map f (take i ys) ++ l) (same ∙ ap f is ∙ sym (append-nil (f d)))
    ∙ sym (ap (flat_map f) (take_more ys i y lt) ∙ flat_map-append f (take i ys) (d ∷ []))
