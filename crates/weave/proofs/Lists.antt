-- Elements of lists that get longer or have an element set.
use Rattle.std.proofs.Common.{◌≡◌, ◌≢◌, ℕ, zero, suc, ◌+◌, ◌<◌, ◌≤◌, List, [], ◌∷◌, ◌++◌, Option, Some, None, inl, inr, refl, sym, ap, ◌∙◌, length, map, take, arith, append-nil, append_assoc, Bor}
use Rattle.std.specs.Prelude.{slice_get, get_or, IfNone, ◌⊎◌}
use Rattle.std.proofs.Math.ListN.{set}
use Rattle.std.proofs.lemmas.List.{map-append, take_more}
use Rattle.std.specs.Option.{option_copied, option_map_or}

pub take_front : {X : Type 0} (xs ys : List X) → take (length xs) (xs ++ ys) ≡ xs
take_front [] ys = refl
take_front {X = X} (x ∷ xs) ys = ap (λ (l : List X). x ∷ l) (take_front xs ys)

-- the images of a front of a list, with one element more
pub images_more : {X Y : Type 0} (f : X → Y) (ys : List Y) (xs : List X) (i : ℕ) (x : X) → i < length xs → x ≡ get_or xs i x → ys ≡ map f (take i xs) → ys ++ f x ∷ [] ≡ map f (take (i + 1) xs)
images_more {Y = Y} f ys xs i x h is was =
    ap (λ (l : List Y). l ++ f x ∷ []) was
    ∙ ap (λ y. map f (take i xs) ++ f y ∷ []) is
    ∙ sym (map-append f (take i xs) (get_or xs i x ∷ []))
    ∙ sym (ap (map f) (take_more xs i x h))

pub past_end : {X : Type 0} (xs : List X) (k : ℕ) → slice_get xs k ≡ None → length xs ≤ k
past_end [] k e = omega arith
past_end (x ∷ xs) zero e = absurd (cc (e))
past_end (x ∷ xs) (suc k) e = omega (arith, past_end xs k e)

pub get_at : {X : Type 0} (xs : List X) (k : ℕ) (d : X) → k < length xs → slice_get xs k ≡ Some (get_or xs k d)
get_at [] k d below = absurd (omega arith)
get_at (y ∷ xs) zero d below = refl
get_at (y ∷ xs) (suc k) d below = get_at xs k d (omega arith)

-- an element of a list with one element more
pub one_more : {X : Type 0} (xs : List X) (y x : X) (k : ℕ) → slice_get (xs ++ y ∷ []) k ≡ Some x → ((k < length xs) × (slice_get xs k ≡ Some x)) ⊎ ((k ≡ length xs) × (y ≡ x))
one_more [] y x zero is = inr (refl, cc (is))
one_more [] y x (suc k) is = absurd (cc (is))
one_more (z ∷ xs) y x zero is = inl (omega arith, is)
one_more (z ∷ xs) y x (suc k) is = elim (one_more xs y x k is) [
  | inl h ↦ inl (omega (arith, h.0), h.1)
  | inr h ↦ inr (omega (arith, h.0), h.1)
]

-- a list in two parts, one element further, and at its end
pub one_done : {X : Type 0} (all done left rest : List X) (x : X) → all ≡ done ++ left → left ≡ x ∷ rest → all ≡ (done ++ x ∷ []) ++ rest
one_done {X} all done left rest x split is = split ∙ (ap (λ (xs : List X). done ++ xs) is ∙ sym (append_assoc done (x ∷ []) rest))

pub all_done : {X : Type 0} (all done left : List X) → all ≡ done ++ left → length left ≡ 0 → all ≡ done
all_done all done [] split none = split ∙ append-nil done
all_done all done (x ∷ xs) split none = absurd (omega (arith, none))

-- the element of a list of images at an index
pub map_get : {X Y : Type 0} (f : X → Y) (xs : List X) (at : ℕ) (r : X) (d : Y) → at < length xs → r ≡ get_or xs at r → get_or (map f xs) at d ≡ f r
map_get f [] at r d below is = absurd (omega arith)
map_get f (x ∷ xs) zero r d below is = ap f (sym is)
map_get f (x ∷ xs) (suc at) r d below is = map_get f xs at r d (omega arith) is

pub image_at : {X Y : Type 0} (f : X → Y) (xs : List X) (k : ℕ) (d : X) → k < length xs → slice_get (map f xs) k ≡ Some (f (get_or xs k d))
image_at f [] k d below = absurd (omega arith)
image_at f (y ∷ xs) zero d below = refl
image_at f (y ∷ xs) (suc k) d below = image_at f xs k d (omega arith)

-- the element at an index within the list, for any default
pub in_range : {X : Type 0} (xs : List X) (at : ℕ) (r d : X) → at < length xs → r ≡ get_or xs at r → get_or xs at d ≡ r
in_range [] at r d below is = absurd (omega arith)
in_range (x ∷ xs) zero r d below is = sym is
in_range (x ∷ xs) (suc at) r d below is = in_range xs at r d (omega arith) is

pub if_none : {X P Q : Type 0} (o : Option X) → (P → Q) → IfNone o P → IfNone o Q
if_none None f h = f h
if_none (Some x) f h = h

-- the list that a slice of lists lends at an index
pub now_at : {X : Type 0} (xs : List (Bor X)) (at : ℕ) (r : Bor X) (d : X) → at < length xs → r ≡ get_or xs at r → get_or (map (λ (j : Bor X). j.now) xs) at d ≡ (get_or xs at r).now
now_at {X = X} xs at r d below is = map_get (λ (j : Bor X). j.now) xs at r d below is ∙ ap (λ (j : Bor X). j.now) is

-- a lent value as the one of the option that it came from
pub none_lent : {X : Type 0} (r : Option (Bor X)) (o : Option X) → option_copied r ≡ o → r ≡ None → o ≡ None
none_lent {X = X} r o e is = sym e ∙ ap (λ (z : Option (Bor X)). option_copied z) is

pub mapped : {X : Type 0} (o : Option X) (x : X) → Some x ≡ o → (f : X → List ℕ) → option_map_or f o [] ≡ f x
mapped o x e f = ap (λ z. option_map_or f z []) (sym e)

-- a list with an element set, there and elsewhere
pub set_here : {X : Type 0} (xs : List X) (at : ℕ) (v : X) → at < length xs → slice_get (set xs at v) at ≡ Some v
set_here [] at v below = absurd (omega arith)
set_here (x ∷ xs) zero v below = refl
set_here (x ∷ xs) (suc at) v below = set_here xs at v (omega arith)

pub set_other : {X : Type 0} (xs : List X) (at k : ℕ) (v : X) → k ≢ at → slice_get (set xs at v) k ≡ slice_get xs k
set_other [] at k v apart = refl
set_other (x ∷ xs) zero zero v apart = absurd (apart refl)
set_other (x ∷ xs) zero (suc k) v apart = refl
set_other (x ∷ xs) (suc at) zero v apart = refl
set_other (x ∷ xs) (suc at) (suc k) v apart = set_other xs at k v (λ e. apart (ap suc e))
