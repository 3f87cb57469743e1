-- Counting in lists: how many elements of a list pass a test, and the identifiers of the transitions that pass.
use Rattle.std.proofs.Common.{◌≡◌, ℕ, suc, ◌+◌, ◌≤◌, List, [], ◌∷◌, ◌++◌, Bool, true, false, not, cond, inl, inr, refl, sym, ap, subst, ◌∙◌, arith, length}
use Rattle.std.specs.Prelude.{◌&&◌}
use Rattle.std.specs.List.{list_any, count_by}
use Rattle.std.proofs.lemmas.List.Sums.{sum_by-cons}
use Rattle.std.proofs.lemmas.Bool.{or_parts, cond-true, cond-false, cases_Bool}
use Rattle.status.specs.declared.id.TransactionId.{TransactionId}
use Rattle.protocol.specs.History.{Transition}
use Rattle.units.proofs.Lists.Membership.{In, In_cond}
use Rattle.units.proofs.Lists.SomePass.{list_any_some}

-- ---- how many pass

count_cons : {X : Type 0} (p : X → Bool) (x : X) (xs : List X) (b : Bool) → p x ≡ b → count_by p (x ∷ xs) ≡ cond b 1 0 + count_by p xs
count_cons {X} p x xs b h = sum_by-cons (λ (z : X). cond {A = ℕ} (p z) 1 0) x xs ∙ ap (λ c. cond {A = ℕ} c 1 0 + count_by p xs) h

pub count_no : {X : Type 0} (p : X → Bool) (x : X) (xs : List X) → p x ≡ false → count_by p (x ∷ xs) ≡ count_by p xs
count_no p x xs h = let e = count_cons p x xs false h in omega arith

pub count_yes : {X : Type 0} (p : X → Bool) (x : X) (xs : List X) → p x ≡ true → count_by p (x ∷ xs) ≡ suc (count_by p xs)
count_yes p x xs h = let e = count_cons p x xs true h in omega arith

pub number_none : {X : Type 0} (p : X → Bool) (xs : List X) → list_any p xs ≡ false → count_by p xs ≡ 0
number_none p [] h = refl
number_none p (x ∷ xs) h = let a = or_parts (p x) (list_any p xs) h in let u = count_no p x xs a.0 in let v = number_none p xs a.1 in omega arith

pub number_append : {X : Type 0} (p : X → Bool) (xs ys : List X) → count_by p (xs ++ ys) ≡ count_by p xs + count_by p ys
number_append p [] ys = omega arith
number_append p (x ∷ xs) ys =
    let r = number_append p xs ys in
    elim (cases_Bool (p x)) [
      | inl y ↦ let u = count_yes p x (xs ++ ys) y in let v = count_yes p x xs y in omega arith
      | inr n ↦ let u = count_no p x (xs ++ ys) n in let v = count_no p x xs n in omega arith
    ]

pub number_one : {X : Type 0} (p : X → Bool) (xs : List X) (x : X) → In x xs → p x ≡ true → 1 ≤ count_by p xs
number_one p [] x i h = absurd i
number_one p (y ∷ ys) x (inl e) h = let u = count_yes p y ys (subst (λ z. p z ≡ true) (sym e) h) in omega arith
number_one p (y ∷ ys) x (inr i) h =
    let a = number_one p ys x i h in
    elim (cases_Bool (p y)) [
      | inl t ↦ let u = count_yes p y ys t in omega arith
      | inr f ↦ let u = count_no p y ys f in omega arith
    ]

pub number_some : {X : Type 0} (p : X → Bool) (xs : List X) → 1 ≤ count_by p xs → (x : X) × In x xs × (p x ≡ true)
number_some p xs h =
    elim (cases_Bool (list_any p xs)) [
      | inl y ↦ list_any_some p xs y
      | inr n ↦ absurd (let e = number_none p xs n in omega arith)
    ]

pub number_two : {X : Type 0} (p : X → Bool) (xs : List X) (x y : X) → In x xs → In y xs → p x ≡ true → p y ≡ true → (x ≡ y → ⊥) → 2 ≤ count_by p xs
number_two p [] x y i j h k other = absurd i
number_two p (z ∷ zs) x y (inl e) (inl g) h k other = absurd (other (sym e ∙ g))
number_two p (z ∷ zs) x y (inl e) (inr j) h k other =
    let u = count_yes p z zs (subst (λ w. p w ≡ true) (sym e) h) in
    let a = number_one p zs y j k in
    omega arith
number_two p (z ∷ zs) x y (inr i) (inl g) h k other =
    let u = count_yes p z zs (subst (λ w. p w ≡ true) (sym g) k) in
    let a = number_one p zs x i h in
    omega arith
number_two p (z ∷ zs) x y (inr i) (inr j) h k other =
    let a = number_two p zs x y i j h k other in
    elim (cases_Bool (p z)) [
      | inl t ↦ let u = count_yes p z zs t in omega arith
      | inr f ↦ let u = count_no p z zs f in omega arith
    ]

-- those that pass are those that pass another test too and those that don't
pub number_parts : {X : Type 0} (p q : X → Bool) (xs : List X) → count_by p xs ≡ count_by (λ x. p x && q x) xs + count_by (λ x. p x && not (q x)) xs
number_parts p q [] = refl
number_parts p q (x ∷ xs) =
    parts _ _ _ _ _ _ (p x) (q x) (number_parts p q xs) (count_cons p x xs (p x) refl) (count_cons (λ z. p z && q z) x xs (p x && q x) refl)
    (count_cons (λ z. p z && not (q z)) x xs (p x && not (q x)) refl)
  where
    parts : (a b c d e f : ℕ) (y z : Bool) → a ≡ b + c → d ≡ cond y 1 0 + a → e ≡ cond (y && z) 1 0 + b → f ≡ cond (y && not z) 1 0 + c → d ≡ e + f
    parts a b c d e f true true h i j k = omega arith
    parts a b c d e f true false h i j k = omega arith
    parts a b c d e f false z h i j k = omega arith

-- ---- the identifiers of the transitions that pass

abbrev pub picked : (Transition → Bool) → List Transition → List TransactionId
picked p [] = []
picked p (x ∷ xs) = cond (p x) (x.id ∷ picked p xs) (picked p xs)

pub length_picked : (p : Transition → Bool) (xs : List Transition) → length (picked p xs) ≡ count_by p xs
length_picked p [] = refl
length_picked p (x ∷ xs) =
    elim (cases_Bool (p x)) [
      | inl y ↦ ap length (cond-true (p x) (x.id ∷ picked p xs) (picked p xs) y) ∙ ap suc (length_picked p xs) ∙ sym (count_yes p x xs y)
      | inr n ↦ ap length (cond-false (p x) (x.id ∷ picked p xs) (picked p xs) n) ∙ length_picked p xs ∙ sym (count_no p x xs n)
    ]

pub In_picked : (p : Transition → Bool) (xs : List Transition) (t : TransactionId) → In t (picked p xs) → (x : Transition) × In x xs × (p x ≡ true) × (x.id ≡ t)
In_picked p [] t h = absurd h
In_picked p (x ∷ xs) t h =
    elim (In_cond t (p x) (x.id ∷ picked p xs) (picked p xs) h) [
      | inl i ↦
          elim i.1 [
            | inl e ↦ (x, inl refl, i.0, e)
            | inr j ↦ let q = In_picked p xs t j in (q.0, inr q.1, q.2, q.3)
          ]
      | inr i ↦ let q = In_picked p xs t i.1 in (q.0, inr q.1, q.2, q.3)
    ]

pub picked_In : (p : Transition → Bool) (xs : List Transition) (x : Transition) → In x xs → p x ≡ true → In x.id (picked p xs)
picked_In p [] x h y = absurd h
picked_In p (q ∷ xs) x (inl e) y =
    subst (λ ids. In x.id ids) (sym (cond-true (p q) (q.id ∷ picked p xs) (picked p xs) (subst (λ z. p z ≡ true) (sym e) y))) (inl (ap (λ (z : Transition). z.id) e))
picked_In p (q ∷ xs) x (inr h) y =
    elim (cases_Bool (p q)) [
      | inl z ↦ subst (λ ids. In x.id ids) (sym (cond-true (p q) (q.id ∷ picked p xs) (picked p xs) z)) (inr (picked_In p xs x h y))
      | inr n ↦ subst (λ ids. In x.id ids) (sym (cond-false (p q) (q.id ∷ picked p xs) (picked p xs) n)) (picked_In p xs x h y)
    ]

pub picked_append : (p : Transition → Bool) (xs ys : List Transition) → picked p (xs ++ ys) ≡ picked p xs ++ picked p ys
picked_append p [] ys = refl
picked_append p (x ∷ xs) ys = go (p x) (picked_append p xs ys)
  where
    go : (b : Bool) → picked p (xs ++ ys) ≡ picked p xs ++ picked p ys → cond b (x.id ∷ picked p (xs ++ ys)) (picked p (xs ++ ys)) ≡ cond b (x.id ∷ picked p xs) (picked p xs) ++ picked p ys
    go true e = ap (λ ids. x.id ∷ ids) e
    go false e = e
