-- Membership in a list, by recursion over the list, and membership in parts, images and choices of lists.
use Rattle.std.proofs.Common.{◌≡◌, ℕ, zero, suc, List, [], ◌∷◌, ◌++◌, Bool, true, false, cond, Option, Some, ◌⊎◌, inl, inr, refl, sym, ap, subst, ◌∙◌, map}
use Rattle.std.specs.Prelude.{filter, flat_map, find, slice_get}
use Rattle.std.proofs.lemmas.Bool.{cases_Bool, cond-true, cond-false}

abbrev pub In : {X : Type 0} → X → List X → Type 0
In x [] = ⊥
In x (y ∷ ys) = (y ≡ x) ⊎ In x ys

pub In_left : {X : Type 0} (x : X) (xs ys : List X) → In x xs → In x (xs ++ ys)
In_left x [] ys h = absurd h
In_left x (y ∷ xs) ys (inl e) = inl e
In_left x (y ∷ xs) ys (inr h) = inr (In_left x xs ys h)

pub In_right : {X : Type 0} (x : X) (xs ys : List X) → In x ys → In x (xs ++ ys)
In_right x [] ys h = h
In_right x (y ∷ xs) ys h = inr (In_right x xs ys h)

pub In_cases : {X : Type 0} (x : X) (xs ys : List X) → In x (xs ++ ys) → In x xs ⊎ In x ys
In_cases x [] ys h = inr h
In_cases x (y ∷ xs) ys (inl e) = inl (inl e)
In_cases x (y ∷ xs) ys (inr h) = elim (In_cases x xs ys h) [ inl a ↦ inl (inr a) | inr b ↦ inr b ]

pub In_flat_map : {X A : Type 0} (f : X → List A) (a : A) (xs : List X) → In a (flat_map f xs) → (x : X) × In x xs × In a (f x)
In_flat_map f a [] h = absurd h
In_flat_map f a (x ∷ xs) h =
    elim (In_cases a (f x) (flat_map f xs) h) [
      | inl i ↦ (x, inl refl, i)
      | inr i ↦ let r = In_flat_map f a xs i in (r.0, inr r.1, r.2)
    ]

pub In_map : {X Y : Type 0} (f : X → Y) (y : Y) (xs : List X) → In y (map f xs) → (x : X) × In x xs × (f x ≡ y)
In_map f y [] h = absurd h
In_map f y (x ∷ xs) (inl e) = (x, inl refl, e)
In_map f y (x ∷ xs) (inr h) = let r = In_map f y xs h in (r.0, inr r.1, r.2)

pub map_In : {X Y : Type 0} (f : X → Y) (x : X) (xs : List X) → In x xs → In (f x) (map f xs)
map_In f x [] h = absurd h
map_In f x (y ∷ ys) (inl e) = inl (ap f e)
map_In f x (y ∷ ys) (inr h) = inr (map_In f x ys h)

pub In_slice_get : {X : Type 0} (xs : List X) (k : ℕ) (x : X) → slice_get xs k ≡ Some x → In x xs
In_slice_get [] k x e = absurd (cc)
In_slice_get (y ∷ ys) zero x e = inl (cc)
In_slice_get (y ∷ ys) (suc k) x e = inr (In_slice_get ys k x e)

pub In_cond : {X : Type 0} (x : X) (b : Bool) (xs ys : List X) → In x (cond b xs ys) → ((b ≡ true) × In x xs) ⊎ ((b ≡ false) × In x ys)
In_cond x true xs ys h = inl (refl, h)
In_cond x false xs ys h = inr (refl, h)

cond_Some : {X : Type 0} (b : Bool) (y x : X) (o : Option X) → cond b (Some y) o ≡ Some x → ((b ≡ true) × (y ≡ x)) ⊎ ((b ≡ false) × (o ≡ Some x))
cond_Some true y x o e = inl (refl, cc)
cond_Some false y x o e = inr (refl, e)

pub In_find : {X : Type 0} (p : X → Bool) (xs : List X) (x : X) → find p xs ≡ Some x → In x xs × (p x ≡ true)
In_find p [] x e = absurd (cc)
In_find p (y ∷ ys) x e =
    elim (cond_Some (p y) y x (find p ys) e) [
      | inl h ↦ (inl h.1, subst (λ z. p z ≡ true) h.1 h.0)
      | inr h ↦ let r = In_find p ys x h.1 in (inr r.0, r.1)
    ]

pub In_filter : {X : Type 0} (p : X → Bool) (xs : List X) (x : X) → In x (filter p xs) → In x xs × (p x ≡ true)
In_filter p [] x h = absurd h
In_filter p (y ∷ ys) x h =
    elim (In_cond x (p y) (y ∷ filter p ys) (filter p ys) h) [
      | inl i ↦
          elim i.1 [
            | inl e ↦ (inl e, subst (λ z. p z ≡ true) e i.0)
            | inr j ↦ let r = In_filter p ys x j in (inr r.0, r.1)
          ]
      | inr i ↦ let r = In_filter p ys x i.1 in (inr r.0, r.1)
    ]

pub filter_In : {X : Type 0} (p : X → Bool) (x : X) (xs : List X) → In x xs → p x ≡ true → In x (filter p xs)
filter_In p x [] i h = absurd i
filter_In p x (y ∷ ys) (inl e) h = subst (In x) (sym (cond-true (p y) (y ∷ filter p ys) (filter p ys) (ap p e ∙ h))) (inl e)
filter_In p x (y ∷ ys) (inr i) h = elim (cases_Bool (p y)) [
  | inl t ↦ subst (In x) (sym (cond-true (p y) (y ∷ filter p ys) (filter p ys) t)) (inr (filter_In p x ys i h))
  | inr f ↦ subst (In x) (sym (cond-false (p y) (y ∷ filter p ys) (filter p ys) f)) (filter_In p x ys i h)
]
