-- The transitions of a clean-up. A test for one transaction is carried from the outside of `expired` to its inside:
-- through the row of the table for each, through the sort, and through the age, down to the newest transition of each
-- transaction; at most one of these passes. Order is carried the other way: the newest ones are of different
-- transactions, the sort puts them in ascending order, and the row of each is about the same transaction.
use Rattle.std.proofs.Common.{◌≡◌, ℕ, List, [], ◌∷◌, ◌++◌, Bool, true, false, Option, Some, None, Ordering, cond, inl, inr, not, refl, sym, ap, subst, ◌∙◌}
use Rattle.std.specs.List.{AllByRecursion}
use Rattle.std.specs.Option.{option_map_or}
use Rattle.std.specs.Ordering.{is_lt, ordering_reverse}
use Rattle.std.specs.Prelude.{filter, flat_map}
use Rattle.std.specs.declared.cmp.Ordering.TheVariants.{Equal, Greater, Less}
use Rattle.std.proofs.lemmas.Bool.{cases_Bool, cond-false, cond-true, false_from_ne_true, not-true}
use Rattle.std.proofs.lemmas.List.{append-nil}
use Rattle.std.proofs.lemmas.List.Elements.{filter-append}
use Rattle.units.specs.Apart.{Pairwise}
use Rattle.status.proofs.IdOrder.{exact_ids, ids_total}
use Rattle.status.proofs.Ids.{id_of_same, same_id-refl}
use Rattle.status.specs.Id.{id_cmp, same_id}
use Rattle.status.specs.Rows.{log_row}
use Rattle.status.specs.declared.id.TransactionId.{TransactionId}
use Rattle.status.specs.declared.rows.Row.{Row}
use Rattle.status.specs.declared.rows.Row.TheVariants.{Late, Move, Refused, Repeat}
use Rattle.status.specs.declared.rows.RowInput.TheVariants as column
use Rattle.protocol.specs.AtLog.{by_id, cleaned, expired, is_old, newest_of_each, put_transition}
use Rattle.protocol.specs.Deciding.{known, moved, moved_by}
use Rattle.protocol.specs.Effects.{log_sends}
use Rattle.protocol.specs.History.{Transition, newest}
use Rattle.units.proofs.Lists.OneValue.{clash}
use Rattle.units.proofs.UnitLines.{less_true}

-- ---- lists of which a test passes some

module _ {X : Type 0} (p : X → Bool) where
  -- one that passes in front
  filter_yes : (x : X) (xs : List X) → p x ≡ true → filter p (x ∷ xs) ≡ x ∷ filter p xs
  filter_yes x xs y = cond-true (p x) (x ∷ filter p xs) (filter p xs) y

  -- one that doesn't in front
  filter_no : (x : X) (xs : List X) → p x ≡ false → filter p (x ∷ xs) ≡ filter p xs
  filter_no x xs n = cond-false (p x) (x ∷ filter p xs) (filter p xs) n

  -- none passes
  filter_none : (xs : List X) → AllByRecursion (λ x. p x ≡ false) xs → filter p xs ≡ []
  filter_none [] h = refl
  filter_none (x ∷ xs) h = filter_no x xs h.0 ∙ filter_none xs h.1

  -- a property of each element is one of each that passes
  all_filter : (P : X → Type 0) (xs : List X) → AllByRecursion P xs → AllByRecursion P (filter p xs)
  all_filter P [] h = tt
  all_filter P (x ∷ xs) h = go (p x) (all_filter P xs h.1)
    where
      go : (b : Bool) → AllByRecursion P (filter p xs) → AllByRecursion P (cond b (x ∷ filter p xs) (filter p xs))
      go true rest = (h.0, rest)
      go false rest = rest

  -- a relation of each two elements is one of each two that pass
  pairwise_filter : (R : X → X → Type 0) (xs : List X) → Pairwise R xs → Pairwise R (filter p xs)
  pairwise_filter R [] h = tt
  pairwise_filter R (x ∷ xs) h = go (p x) (pairwise_filter R xs h.1)
    where
      go : (b : Bool) → Pairwise R (filter p xs) → Pairwise R (cond b (x ∷ filter p xs) (filter p xs))
      go true rest = (all_filter (R x) xs h.0, rest)
      go false rest = rest

  -- each that passes does
  all_pass : (xs : List X) → AllByRecursion (λ x. p x ≡ true) (filter p xs)
  all_pass [] = tt
  all_pass (x ∷ xs) = go (p x) refl (all_pass xs)
    where
      go : (b : Bool) → p x ≡ b → AllByRecursion (λ z. p z ≡ true) (filter p xs) → AllByRecursion (λ z. p z ≡ true) (cond b (x ∷ filter p xs) (filter p xs))
      go true y rest = (y, rest)
      go false n rest = rest

  -- two tests in either order
  filter_swap : (q : X → Bool) (xs : List X) → filter p (filter q xs) ≡ filter q (filter p xs)
  filter_swap q [] = refl
  filter_swap q (x ∷ xs) = go (p x) (q x) refl refl (filter_swap q xs)
    where
      go : (a b : Bool) → p x ≡ a → q x ≡ b → filter p (filter q xs) ≡ filter q (filter p xs)
          → filter p (cond b (x ∷ filter q xs) (filter q xs)) ≡ filter q (cond a (x ∷ filter p xs) (filter p xs))
      go true true e f rest = filter_yes x (filter q xs) e ∙ ap (λ zs. x ∷ zs) rest ∙ sym (cond-true (q x) (x ∷ filter q (filter p xs)) (filter q (filter p xs)) f)
      go true false e f rest = rest ∙ sym (cond-false (q x) (x ∷ filter q (filter p xs)) (filter q (filter p xs)) f)
      go false true e f rest = filter_no x (filter q xs) e ∙ rest
      go false false e f rest = rest

  -- a test that takes nothing away that passes
  filter_inner : (q : X → Bool) → ((x : X) → p x ≡ true → q x ≡ true) → (xs : List X) → filter p (filter q xs) ≡ filter p xs
  filter_inner q passes [] = refl
  filter_inner q passes (x ∷ xs) = go (q x) refl (filter_inner q passes xs)
    where
      go : (b : Bool) → q x ≡ b → filter p (filter q xs) ≡ filter p xs → filter p (cond b (x ∷ filter q xs) (filter q xs)) ≡ filter p (x ∷ xs)
      go true e rest = ap (λ zs. cond (p x) (x ∷ zs) zs) rest
      go false e rest = rest ∙ sym (filter_no x xs (false_from_ne_true (p x) (λ y. clash (q x) (passes x y) e)))

  -- what is made of each passes where that does
  filter_flat : (f : X → List X) → ((x : X) → filter p (f x) ≡ cond (p x) (f x) []) → (xs : List X) → filter p (flat_map f xs) ≡ flat_map f (filter p xs)
  filter_flat f made [] = refl
  filter_flat f made (x ∷ xs) = filter-append p (f x) (flat_map f xs) ∙ (λ i. made x i ++ filter_flat f made xs i) ∙ go (p x)
    where
      go : (b : Bool) → cond b (f x) [] ++ flat_map f (filter p xs) ≡ flat_map f (cond b (x ∷ filter p xs) (filter p xs))
      go true = refl
      go false = refl

-- what follows for each element follows for all
all_map : {X : Type 0} (P Q : X → Type 0) → ((x : X) → P x → Q x) → (xs : List X) → AllByRecursion P xs → AllByRecursion Q xs
all_map P Q to [] h = tt
all_map P Q to (x ∷ xs) h = (to x h.0, all_map P Q to xs h.1)

-- ---- identifiers

-- a transition of the transaction
abbrev is_of : TransactionId → Transition → Bool
is_of t x = same_id x.id t

-- two of different transactions
abbrev Differ : Transition → Transition → Type 0
Differ a b = same_id b.id a.id ≡ false

-- two in ascending order
abbrev Before : Transition → Transition → Type 0
Before a b = id_cmp a.id b.id ≡ Less

-- of two that differ, the one that isn't less comes later
after_from : (a b : Transition) → is_lt (id_cmp a.id b.id) ≡ false → Differ a b → Before b a
after_from a b h differ = ids_total.antisymm b.id a.id ∙ go (id_cmp a.id b.id) refl h
  where
    go : (o : Ordering) → id_cmp a.id b.id ≡ o → is_lt o ≡ false → ordering_reverse o ≡ Less
    go Less e n = absurd (cc (n))
    go Equal e n = clash (same_id b.id a.id) (subst (λ u. same_id u a.id ≡ true) (exact_ids a.id b.id e) (same_id-refl a.id)) differ
    go Greater e n = refl

-- ---- the newest transition of each transaction

-- the second is of another transaction than the first
abbrev of_another : Transition → Transition → Bool
of_another x y = not (same_id y.id x.id)

-- what is left without the transitions of one transaction is of others
others : (x : Transition) (ys : List Transition) → AllByRecursion (Differ x) (filter (of_another x) ys)
others x ys = all_map (λ y. of_another x y ≡ true) (Differ x) (λ y h. not-true (same_id y.id x.id) h) (filter (of_another x) ys) (all_pass (of_another x) ys)

-- no two are of one transaction
newest_differ : (xs : List Transition) → Pairwise Differ (newest_of_each xs)
newest_differ [] = tt
newest_differ (x ∷ xs) = (others x (newest_of_each xs), pairwise_filter (of_another x) Differ (newest_of_each xs) (newest_differ xs))

-- of each transaction it is the newest, if there is one
newest_alone : (xs : List Transition) (t : TransactionId) → filter (is_of t) (newest_of_each xs) ≡ option_map_or (λ y. y ∷ []) (newest xs t) []
newest_alone [] t = refl
newest_alone (x ∷ xs) t = go (same_id x.id t) refl (newest_alone xs t)
  where
    ys : List Transition
    ys = newest_of_each xs

    -- another than x, where t isn't x's
    another : same_id x.id t ≡ false → (y : Transition) → is_of t y ≡ true → of_another x y ≡ true
    another n y e = ap not (false_from_ne_true (same_id y.id x.id) (λ s. clash (same_id x.id t) (subst (λ u. same_id u t ≡ true) (id_of_same y.id x.id s) e) n))

    go : (b : Bool) → same_id x.id t ≡ b → filter (is_of t) ys ≡ option_map_or (λ y. y ∷ []) (newest xs t) []
        → cond b (x ∷ filter (is_of t) (filter (of_another x) ys)) (filter (is_of t) (filter (of_another x) ys)) ≡ option_map_or (λ y. y ∷ []) (cond b (Some x) (newest xs t)) []
    go true e rest = ap (λ zs. x ∷ zs) (filter_none (is_of t) (filter (of_another x) ys) (subst (λ u. AllByRecursion (λ (y : Transition). same_id y.id u ≡ false) (filter (of_another x) ys)) (id_of_same x.id t e) (others x ys)))
    go false e rest = filter_inner (is_of t) (of_another x) (another e) ys ∙ rest

-- ---- in the order of identifiers

-- a property of one and of all in the list is one of all after it was put there
all_put : (P : Transition → Type 0) (x : Transition) (ys : List Transition) → P x → AllByRecursion P ys → AllByRecursion P (put_transition x ys)
all_put P x [] first h = (first, tt)
all_put P x (y ∷ ys) first h = go (is_lt (id_cmp x.id y.id)) (all_put P x ys first h.1)
  where
    go : (b : Bool) → AllByRecursion P (put_transition x ys) → AllByRecursion P (cond b (x ∷ y ∷ ys) (y ∷ put_transition x ys))
    go true rest = (first, h)
    go false rest = (h.0, rest)

-- and of all that were sorted
all_by_id : (P : Transition → Type 0) (xs : List Transition) → AllByRecursion P xs → AllByRecursion P (by_id xs)
all_by_id P [] h = tt
all_by_id P (x ∷ xs) h = all_put P x (by_id xs) h.0 (all_by_id P xs h.1)

-- one that differs from all in an ascending list is put in its place
ascending_put : (x : Transition) (ys : List Transition) → AllByRecursion (Differ x) ys → Pairwise Before ys → Pairwise Before (put_transition x ys)
ascending_put x [] differ h = (tt, tt)
ascending_put x (y ∷ ys) differ h = go (is_lt (id_cmp x.id y.id)) refl (ascending_put x ys differ.1 h.1)
  where
    go : (b : Bool) → is_lt (id_cmp x.id y.id) ≡ b → Pairwise Before (put_transition x ys) → Pairwise Before (cond b (x ∷ y ∷ ys) (y ∷ put_transition x ys))
    go true e rest = let first = less_true (id_cmp x.id y.id) e in ((first, all_map (Before y) (Before x) (λ z l. ids_total.trans x.id y.id z.id first l) ys h.0), h)
    go false e rest = (all_put (Before y) x ys (after_from x y e differ.0) h.0, rest)

-- the sort puts different ones in ascending order
ascending_by_id : (xs : List Transition) → Pairwise Differ xs → Pairwise Before (by_id xs)
ascending_by_id [] h = tt
ascending_by_id (x ∷ xs) h = ascending_put x (by_id xs) (all_by_id (Differ x) xs h.0) (ascending_by_id xs h.1)

-- one that passes a test that no other passes may stand anywhere
filter_put : (p : Transition → Bool) (x : Transition) (ys : List Transition) → (p x ≡ true → AllByRecursion (λ y. p y ≡ false) ys) → filter p (put_transition x ys) ≡ filter p (x ∷ ys)
filter_put p x [] alone = refl
filter_put p x (y ∷ ys) alone = go (is_lt (id_cmp x.id y.id)) (filter_put p x ys (λ e. (alone e).1))
  where
    go : (b : Bool) → filter p (put_transition x ys) ≡ filter p (x ∷ ys) → filter p (cond b (x ∷ y ∷ ys) (y ∷ put_transition x ys)) ≡ filter p (x ∷ y ∷ ys)
    go true rest = refl
    go false rest = elim (cases_Bool (p x)) [
      | inl e ↦ filter_no p y (put_transition x ys) (alone e).0 ∙ rest ∙ sym (ap (λ zs. cond (p x) (x ∷ zs) zs) (filter_no p y ys (alone e).0))
      | inr n ↦ ap (λ zs. cond (p y) (y ∷ zs) zs) (rest ∙ filter_no p x ys n) ∙ sym (filter_no p x (y ∷ ys) n)
    ]

-- the sort loses none and makes none
filter_by_id : (t : TransactionId) (xs : List Transition) → Pairwise Differ xs → filter (is_of t) (by_id xs) ≡ filter (is_of t) xs
filter_by_id t [] h = refl
filter_by_id t (x ∷ xs) h =
    filter_put (is_of t) x (by_id xs) (λ e. subst (λ u. AllByRecursion (λ (y : Transition). same_id y.id u ≡ false) (by_id xs)) (id_of_same x.id t e) (all_by_id (Differ x) xs h.0))
    ∙ ap (λ zs. cond (is_of t x) (x ∷ zs) zs) (filter_by_id t xs h.1)

-- ---- what the table says of one

-- it is no transition, or one of the same transaction
of_cleaned : (P : List Transition → Type 0) (moment : ℕ) (x : Transition) → P [] → ((y : Transition) → y.id ≡ x.id → P (y ∷ [])) → P (cleaned moment x)
of_cleaned P moment x none one = go (log_row (known (Some x)) column.CleanUp)
  where
    go : (row : Row) → P (moved_by (moved x.id x.content moment (log_sends x.id x.content [] column.CleanUp)) row)
    go (Move new) = one (moved x.id x.content moment (log_sends x.id x.content [] column.CleanUp) new) refl
    go Repeat = none
    go Late = none
    go Refused = none

-- a test for one transaction passes all of it or nothing
filter_cleaned : (t : TransactionId) (moment : ℕ) (x : Transition) → filter (is_of t) (cleaned moment x) ≡ cond (is_of t x) (cleaned moment x) []
filter_cleaned t moment x = of_cleaned (λ ys. filter (is_of t) ys ≡ cond (is_of t x) ys []) moment x (neither (is_of t x)) (λ y same. ap (λ u. cond (same_id u t) (y ∷ []) []) same)
  where
    none : List Transition
    none = []

    neither : (b : Bool) → none ≡ cond b none none
    neither true = refl
    neither false = refl

-- a property of each identifier is one of those of the transitions that are made
all_cleaned : (P : TransactionId → Type 0) (moment : ℕ) (xs : List Transition) → AllByRecursion (λ (x : Transition). P x.id) xs → AllByRecursion (λ (x : Transition). P x.id) (flat_map (cleaned moment) xs)
all_cleaned P moment [] h = tt
all_cleaned P moment (x ∷ xs) h =
    let rest = all_cleaned P moment xs h.1 in
    of_cleaned (λ ys. AllByRecursion (λ (z : Transition). P z.id) (ys ++ flat_map (cleaned moment) xs)) moment x rest (λ y same. (subst P (sym same) h.0, rest))

-- of an ascending list an ascending one is made
ascending_cleaned : (moment : ℕ) (xs : List Transition) → Pairwise Before xs → Pairwise Before (flat_map (cleaned moment) xs)
ascending_cleaned moment [] h = tt
ascending_cleaned moment (x ∷ xs) h =
    let rest = ascending_cleaned moment xs h.1 in
    let later = all_cleaned (λ t. id_cmp x.id t ≡ Less) moment xs h.0 in
    of_cleaned (λ ys. Pairwise Before (ys ++ flat_map (cleaned moment) xs)) moment x rest
    (λ y same. (subst (λ u. AllByRecursion (λ (z : Transition). id_cmp u z.id ≡ Less) (flat_map (cleaned moment) xs)) (sym same) later, rest))

-- ---- what has expired

module _ (xs : List Transition) (moment : ℕ) where
  -- those that are old enough are of different transactions
  old_differ : Pairwise Differ (filter (is_old moment) (newest_of_each xs))
  old_differ = pairwise_filter (is_old moment) Differ (newest_of_each xs) (newest_differ xs)

  -- what is made of the newest transition of one transaction
  of_newest : (o : Option Transition) → flat_map (cleaned moment) (filter (is_old moment) (option_map_or (λ y. y ∷ []) o [])) ≡ option_map_or (λ y. cond (is_old moment y) (cleaned moment y) []) o []
  of_newest None = refl
  of_newest (Some y) = go (is_old moment y)
    where
      go : (b : Bool) → flat_map (cleaned moment) (cond b (y ∷ []) []) ≡ cond b (cleaned moment y) []
      go true = append-nil (cleaned moment y)
      go false = refl

  -- of one transaction the newest transition is sorted with the others, where it is old enough
  sorted_of : (t : TransactionId) → filter (is_of t) (by_id (filter (is_old moment) (newest_of_each xs))) ≡ filter (is_old moment) (option_map_or (λ y. y ∷ []) (newest xs t) [])
  sorted_of t =
      filter_by_id t (filter (is_old moment) (newest_of_each xs)) old_differ
      ∙ filter_swap (is_of t) (is_old moment) (newest_of_each xs)
      ∙ ap (filter (is_old moment)) (newest_alone xs t)

  -- what has expired of each transaction
  pub expired_of_each : (t : TransactionId) → filter (λ x. same_id x.id t) (expired xs moment) ≡ option_map_or (λ y. cond (is_old moment y) (cleaned moment y) []) (newest xs t) []
  expired_of_each t =
      filter_flat (is_of t) (cleaned moment) (filter_cleaned t moment) (by_id (filter (is_old moment) (newest_of_each xs)))
      ∙ ap (flat_map (cleaned moment)) (sorted_of t)
      ∙ of_newest (newest xs t)

  -- what has expired stands in the order of identifiers
  pub ascending_expired : Pairwise (λ a b. id_cmp a.id b.id ≡ Less) (expired xs moment)
  ascending_expired = ascending_cleaned moment (by_id (filter (is_old moment) (newest_of_each xs))) (ascending_by_id (filter (is_old moment) (newest_of_each xs)) old_differ)
