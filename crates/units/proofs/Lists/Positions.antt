-- Where in a list an element stands.
use Rattle.std.proofs.Common.{◌≡◌, ℕ, zero, suc, ◌<◌, List, [], ◌∷◌, ◌++◌, Some, inl, inr, refl, ap, subst, arith, length, take, drop, take-append-drop}
use Rattle.std.specs.Prelude.{slice_get, get_or, Contains}
use Rattle.std.proofs.lemmas.Option.{slice_get_within, get_or_from_slice_get}
use Rattle.units.proofs.Lists.Membership.{In, In_left}

In_get_or : {X : Type 0} (xs : List X) (k : ℕ) (d : X) → k < length xs → In (get_or xs k d) xs
In_get_or [] k d h = absurd (omega arith)
In_get_or (x ∷ xs) zero d h = inl refl
In_get_or (x ∷ xs) (suc k) d h = inr (In_get_or xs k d (omega arith))

pub In_contains : {X : Type 0} (xs : List X) (x : X) → Contains xs x → In x xs
In_contains xs x i = subst (λ z. In z xs) i.2 (In_get_or xs i.0 x i.1)

pub index_of : {X : Type 0} (xs : List X) (x : X) → In x xs → (k : ℕ) × (slice_get xs k ≡ Some x)
index_of [] x i = absurd i
index_of (y ∷ ys) x (inl e) = (0, ap Some e)
index_of (y ∷ ys) x (inr i) = let r = index_of ys x i in (suc r.0, r.1)

pub contains_in : {X : Type 0} (xs : List X) (x : X) → In x xs → Contains xs x
contains_in xs x i = let k = index_of xs x i in (k.0, slice_get_within xs k.0 x k.1, get_or_from_slice_get xs k.0 x x k.1)

pub some_at : {X : Type 0} (xs : List X) (k : ℕ) → k < length xs → (x : X) × (slice_get xs k ≡ Some x)
some_at [] k h = absurd (omega arith)
some_at (x ∷ xs) zero h = (x, refl)
some_at (x ∷ xs) (suc k) h = some_at xs k (omega arith)

pub last_at : {X : Type 0} (xs : List X) (x : X) → slice_get (xs ++ x ∷ []) (length xs) ≡ Some x
last_at [] x = refl
last_at (y ∷ ys) x = last_at ys x

pub In_take : {X : Type 0} (k : ℕ) (xs : List X) (x : X) → In x (take k xs) → In x xs
In_take k xs x i = subst (In x) (take-append-drop k xs) (In_left x (take k xs) (drop k xs) i)

-- ---- parts of an empty list

pub left_empty : {X : Type 0} (xs ys : List X) → xs ++ ys ≡ [] → xs ≡ []
left_empty [] ys e = refl
left_empty (x ∷ xs) ys e = absurd (cc)

pub right_empty : {X : Type 0} (xs ys : List X) → xs ++ ys ≡ [] → ys ≡ []
right_empty [] ys e = e
right_empty (x ∷ xs) ys e = absurd (cc)
