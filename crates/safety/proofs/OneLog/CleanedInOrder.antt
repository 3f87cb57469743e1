-- The newest transition of each transaction, and these in ascending order of code and number.
use Rattle.std.proofs.Common.{Bool, List, Ordering, Some, [], ap, cond, false, inl, inr, map, not, refl, subst, sym, true, ◌∙◌, ◌∷◌, ◌≡◌, ◌⊎◌}
use Rattle.std.specs.List.{AllByRecursion}
use Rattle.std.specs.Prelude.{filter}
use Rattle.std.specs.Ordering.{is_lt, ordering_reverse}
use Rattle.std.specs.declared.cmp.Ordering.TheVariants.{Equal, Greater, Less}
use Rattle.std.proofs.lemmas.Bool.{false_from_ne_true, not-true}
use Rattle.units.specs.Apart.{Pairwise}
use Rattle.status.proofs.IdOrder.{exact_ids, ids_total}
use Rattle.status.proofs.Ids.{id_of_same, same_id-refl}
use Rattle.status.specs.Id.{id_cmp, same_id}
use Rattle.status.specs.declared.id.TransactionId.{TransactionId}
use Rattle.protocol.specs.AtLog.{by_id, newest_of_each, put_transition}
use Rattle.protocol.specs.History.{Transition, newest}
use Rattle.units.proofs.Lists.Membership.{In, In_filter, filter_In}
use Rattle.units.proofs.Lists.OneValue.{clash}
use Rattle.units.proofs.UnitLines.{less_true}
use Rattle.safety.proofs.OneRegistry.UnitsCountedOnce.{newest_cons}
use Rattle.safety.proofs.MovesAndHistories.TableMoves.{In_by_id, In_put}

-- ---- the order of identifiers

pub ids_irreflexive : (a : TransactionId) → id_cmp a a ≡ Less → ⊥
ids_irreflexive a h =
    let turned : Less ≡ Greater = sym h ∙ ids_total.antisymm a a ∙ ap ordering_reverse h in
    cc (turned)

-- of two different ones, the one that isn't less is the other
pub ids_turned : (a b : TransactionId) → is_lt (id_cmp a b) ≡ false → (a ≡ b → ⊥) → id_cmp b a ≡ Less
ids_turned a b h differ = ids_total.antisymm b a ∙ go (id_cmp a b) refl h
  where
    go : (o : Ordering) → id_cmp a b ≡ o → is_lt o ≡ false → ordering_reverse o ≡ Less
    go Less e n = absurd (cc (n))
    go Equal e n = absurd (differ (exact_ids a b e))
    go Greater e n = refl

-- ---- transitions of different transactions

abbrev pub Differ : List Transition → Type 0
Differ [] = Unit {0}
Differ (x ∷ xs) = ((y : Transition) → In y xs → x.id ≡ y.id → ⊥) × Differ xs

pub differ_filter : (p : Transition → Bool) (xs : List Transition) → Differ xs → Differ (filter p xs)
differ_filter p [] h = tt
differ_filter p (x ∷ xs) h = go (p x) (differ_filter p xs h.1)
  where
    go : (b : Bool) → Differ (filter p xs) → Differ (cond b (x ∷ filter p xs) (filter p xs))
    go true rest = ((λ y i. h.0 y (In_filter p xs y i).0), rest)
    go false rest = rest

-- ---- the newest transition of each transaction

abbrev of_another : Transition → Transition → Bool
of_another p y = not (same_id y.id p.id)

another : (p y : Transition) → of_another p y ≡ true → p.id ≡ y.id → ⊥
another p y h same = clash (same_id y.id p.id) (subst (λ u. same_id u p.id ≡ true) same (same_id-refl p.id)) (not-true (same_id y.id p.id) h)

pub differ_newest : (xs : List Transition) → Differ (newest_of_each xs)
differ_newest [] = tt
differ_newest (p ∷ ps) = ((λ y i. another p y (In_filter (of_another p) (newest_of_each ps) y i).1), differ_filter (of_another p) (newest_of_each ps) (differ_newest ps))

pub newest_each : (x : Transition) (xs : List Transition) → newest xs x.id ≡ Some x → In x (newest_of_each xs)
newest_each x [] h = absurd (cc (h))
newest_each x (p ∷ ps) h =
    elim (newest_cons p ps x.id x h) [
      | inl e ↦ inl e.0
      | inr e ↦
          let apart = false_from_ne_true (same_id x.id p.id) (λ y. clash (same_id p.id x.id) (subst (λ u. same_id p.id u ≡ true) (sym (id_of_same x.id p.id y)) (same_id-refl p.id)) e.1) in
          inr (filter_In (of_another p) x (newest_of_each ps) (newest_each x ps e.0) (ap not apart))
    ]

-- ---- in ascending order

put_In : (q x : Transition) (xs : List Transition) → (q ≡ x) ⊎ In x xs → In x (put_transition q xs)
put_In q x [] i = i
put_In q x (p ∷ ps) i = go (is_lt (id_cmp q.id p.id)) (put_In q x ps) i
  where
    go : (b : Bool) → ((q ≡ x) ⊎ In x ps → In x (put_transition q ps)) → (q ≡ x) ⊎ In x (p ∷ ps) → In x (cond b (q ∷ p ∷ ps) (p ∷ put_transition q ps))
    go true rest j = j
    go false rest (inl e) = inr (rest (inl e))
    go false rest (inr (inl e)) = inl e
    go false rest (inr (inr j)) = inr (rest (inr j))

pub by_id_In : (x : Transition) (xs : List Transition) → In x xs → In x (by_id xs)
by_id_In x [] h = absurd h
by_id_In x (q ∷ qs) (inl e) = put_In q x (by_id qs) (inl e)
by_id_In x (q ∷ qs) (inr i) = put_In q x (by_id qs) (inr (by_id_In x qs i))

-- each identifier is less than those after it
abbrev pub Ascend : List Transition → Type 0
Ascend [] = Unit {0}
Ascend (x ∷ xs) = ((y : Transition) → In y xs → id_cmp x.id y.id ≡ Less) × Ascend xs

ascend_put : (x : Transition) (ys : List Transition) → Ascend ys → ((y : Transition) → In y ys → x.id ≡ y.id → ⊥) → Ascend (put_transition x ys)
ascend_put x [] h differ = ((λ y i. absurd i), tt)
ascend_put x (y ∷ ys) h differ = go (is_lt (id_cmp x.id y.id)) refl (ascend_put x ys h.1 (λ z i. differ z (inr i)))
  where
    go : (b : Bool) → is_lt (id_cmp x.id y.id) ≡ b → Ascend (put_transition x ys) → Ascend (cond b (x ∷ y ∷ ys) (y ∷ put_transition x ys))
    go true e rest =
        let first = less_true (id_cmp x.id y.id) e in (
          (λ z i. elim i [
            | inl same ↦ subst (λ (w : Transition). id_cmp x.id w.id ≡ Less) same first
            | inr later ↦ ids_total.trans x.id y.id z.id first (h.0 z later)
          ]),
          h,
        )
    go false e rest =
        let first = ids_turned x.id y.id e (differ y (inl refl)) in (
          (λ z i. elim (In_put x z ys i) [
            | inl same ↦ subst (λ (w : Transition). id_cmp y.id w.id ≡ Less) same first
            | inr later ↦ h.0 z later
          ]),
          rest,
        )

pub ascend_by_id : (xs : List Transition) → Differ xs → Ascend (by_id xs)
ascend_by_id [] h = tt
ascend_by_id (x ∷ xs) h = ascend_put x (by_id xs) (ascend_by_id xs h.1) (λ y i. h.0 y (In_by_id y xs i))

-- ---- as a relation of pairs of identifiers

pub all_from_in : {X : Type 0} (P : X → Type 0) (xs : List X) → ((x : X) → In x xs → P x) → AllByRecursion P xs
all_from_in P [] h = tt
all_from_in P (x ∷ xs) h = (h x (inl refl), all_from_in P xs (λ y i. h y (inr i)))

all_ids : (P : TransactionId → Type 0) (xs : List Transition) → ((y : Transition) → In y xs → P y.id) → AllByRecursion P (map (λ (x : Transition). x.id) xs)
all_ids P [] h = tt
all_ids P (x ∷ xs) h = (h x (inl refl), all_ids P xs (λ y i. h y (inr i)))

pub ascend_ids : (xs : List Transition) → Ascend xs → Pairwise (λ a b. id_cmp a b ≡ Less) (map (λ (x : Transition). x.id) xs)
ascend_ids [] h = tt
ascend_ids (x ∷ xs) h = (all_ids (λ u. id_cmp x.id u ≡ Less) xs h.0, ascend_ids xs h.1)
