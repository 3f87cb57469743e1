-- Intervals in another order mean the same, and sorted ones that share no unit stand in order.
use Rattle.std.proofs.Common.{◌≡◌, ◌⊎◌, inl, inr, ℕ, ◌+◌, ◌<◌, ◌≤◌, zero, suc, List, [], ◌∷◌, length, get_or, drop, Bool, true, false, cond, Some, None, Contains, refl, sym, ap, ◌∙◌, subst, arith}
use Rattle.std.specs.declared.cmp.Ordering.{Ordering}
use Rattle.std.specs.declared.cmp.Ordering.TheVariants.{Less, Equal, Greater}
use Rattle.std.specs.List.{count_by, AllByRecursion}
use Rattle.std.specs.List.Sorted.{IsPermutation, IsSortedByKey}
use Rattle.std.specs.Ordering.{nat_cmp, ordering_then, is_lt}
use Rattle.std.proofs.lemmas.Bool.{true≢false, and_from, le-leb, cases_Bool, cases_lt}
use Rattle.std.proofs.lemmas.Cmp.{ranked}
use Rattle.std.proofs.lemmas.List.{drop_all, drop_more}
use Rattle.std.proofs.lemmas.List.Elements.{All-from_recursion, recursion_from_All}
use Rattle.std.proofs.lemmas.List.Sorted.{All-permutation, Contains-permutation, sum_by-IsPermutation}
use Rattle.std.proofs.lemmas.List.Sums.{sum_by-cons, get_or-le-sum_by}
use Rattle.units.specs.Canonical.{IsBefore}
use Rattle.units.specs.Facts.{IsRange}
use Rattle.units.specs.Following.{IsOnto}
use Rattle.units.specs.Intervals.{has, label_at, AreKept, numbered}
use Rattle.units.specs.Keys.{unit_cmp}
use Rattle.units.specs.declared.block.Unit.{Unit as Serial}
use Rattle.units.specs.declared.interval.Interval.{Interval}
use Rattle.units.proofs.OrderingJoins.{AreOrdered, Joins, joins_more}
use Rattle.units.proofs.Same.{same_code-refl, same_period-refl}
use Rattle.units.proofs.UnitOrder.{index, index_keeps, less_from_index, same_line}

-- ---- the number of intervals that have a unit

yes_one : (t : Bool) → t ≡ true → ◌≡◌ {A = ℕ} (cond t 1 0) 1
yes_one t e = ap (λ b. cond b 1 0) e

no_one : (t : Bool) → t ≡ false → ◌≡◌ {A = ℕ} (cond t 1 0) 0
no_one t e = ap (λ b. cond b 1 0) e

module _ {M : Type 0} where
  abbrev holds : Serial → List (Interval M) → ℕ
  holds u is = count_by (λ i. has i u) is

  abbrev one : Serial → Interval M → ℕ
  one u i = cond (has i u) 1 0

  holds_cons : (u : Serial) (i : Interval M) (is : List (Interval M)) → holds u (i ∷ is) ≡ one u i + holds u is
  holds_cons u i is = sum_by-cons (one u) i is

  unlabelled : (is : List (Interval M)) (u : Serial) → holds u is ≡ 0 → label_at is u ≡ None
  unlabelled [] u h = refl
  unlabelled (i ∷ is) u h =
      let both = holds_cons u i is in
      elim (cases_Bool (has i u)) [
        | inl yes' ↦ let here = yes_one (has i u) yes' in absurd (omega arith)
        | inr no' ↦ ap (λ t. cond t (Some i.label) (label_at is u)) no' ∙ unlabelled is u (omega arith)
      ]

  none_held : (is : List (Interval M)) (u : Serial) → label_at is u ≡ None → holds u is ≡ 0
  none_held [] u h = refl
  none_held (i ∷ is) u h =
      let both = holds_cons u i is in
      elim (cases_Bool (has i u)) [
        | inl yes' ↦ let found : Some i.label ≡ None = sym (ap (λ t. cond t (Some i.label) (label_at is u)) yes') ∙ h in cc
        | inr no' ↦
            let here = no_one (has i u) no' in
            let later = none_held is u (sym (ap (λ t. cond t (Some i.label) (label_at is u)) no') ∙ h) in
            omega arith
      ]

  -- kept intervals have a unit once at most, and intervals that have each unit once at most are kept
  at_most_one : (is : List (Interval M)) → AreKept is → (u : Serial) → holds u is ≤ 1
  at_most_one [] kept u = omega arith
  at_most_one (i ∷ is) kept u =
      let both = holds_cons u i is in
      elim (cases_Bool (has i u)) [
        | inl yes' ↦
            let here = yes_one (has i u) yes' in
            let later = none_held is u (kept.1 u yes') in
            omega arith
        | inr no' ↦
            let here = no_one (has i u) no' in
            let later = at_most_one is kept.2 u in
            omega arith
      ]

  abbrev InRange : Interval M → Type 0
  InRange i = IsRange i.first i.last

  ranges : (is : List (Interval M)) → AreKept is → AllByRecursion InRange is
  ranges [] kept = tt
  ranges (i ∷ is) kept = (kept.0, ranges is kept.2)

  kept_from : (is : List (Interval M)) → AllByRecursion InRange is → ((u : Serial) → holds u is ≤ 1) → AreKept is
  kept_from [] all once = tt
  kept_from (i ∷ is) all once = (
    all.0,
    (λ u yes'.
        let both = holds_cons u i is in
        let here = yes_one (has i u) yes' in
        let most = once u in
        unlabelled is u (omega arith)),
    kept_from is all.1 (λ u. let both = holds_cons u i is in let most = once u in omega arith),
  )

  pub kept_moved : (is js : List (Interval M)) → IsPermutation is js → AreKept is → AreKept js
  kept_moved is js moves kept =
      kept_from js (recursion_from_All InRange js (All-permutation InRange is js moves (All-from_recursion InRange is (ranges is kept))))
      (λ u. let same = sum_by-IsPermutation (one u) is js moves in let most = at_most_one is kept u in omega arith)

  -- the label of a unit is that of an interval that has it
  abbrev Found : List (Interval M) → Serial → Type 0
  Found is u = (i : Interval M) × Contains is i × (has i u ≡ true) × (label_at is u ≡ Some i.label)

  found : (is : List (Interval M)) (u : Serial) → (label_at is u ≡ None) ⊎ Found is u
  found [] u = inl refl
  found (i ∷ is) u = elim (cases_Bool (has i u)) [
    | inl yes' ↦ inr (i, (zero, omega arith, refl), yes', ap (λ t. cond t (Some i.label) (label_at is u)) yes')
    | inr no' ↦
        let skip = ap (λ t. cond t (Some i.label) (label_at is u)) no' in
        elim (found is u) [
          | inl none ↦ inl (skip ∙ none)
          | inr f ↦ inr (f.0, (suc f.1.0, omega (arith, f.1.1), f.1.2), f.2, skip ∙ f.3)
        ]
  ]

  held : (is : List (Interval M)) (u : Serial) (k : ℕ) (i : Interval M) → k < length is → get_or is k i ≡ i → has i u ≡ true → 1 ≤ holds u is
  held is u k i h e yes' =
      let least = get_or-le-sum_by (one u) is k i h in
      let here = ap (one u) e ∙ yes_one (has i u) yes' in
      omega arith

  -- where units are held once at most, an interval gives its units its label
  label_held : (is : List (Interval M)) (u : Serial) (k : ℕ) (i : Interval M) → k < length is → get_or is k i ≡ i → has i u ≡ true → holds u is ≤ 1 → label_at is u ≡ Some i.label
  label_held [] u k i h e yes' most = absurd (omega arith)
  label_held (j ∷ is) u zero i h e yes' most =
      ap (λ t. cond t (Some j.label) (label_at is u)) (ap (λ x. has x u) e ∙ yes') ∙ ap (λ (x : Interval M). Some x.label) e
  label_held (j ∷ is) u (suc k) i h e yes' most =
      let both = holds_cons u j is in
      let least = held is u k i (omega arith) e yes' in
      elim (cases_Bool (has j u)) [
        | inl twice ↦ let here = yes_one (has j u) twice in absurd (omega arith)
        | inr no' ↦ ap (λ t. cond t (Some j.label) (label_at is u)) no' ∙ label_held is u k i (omega arith) e yes' (omega arith)
      ]

  pub same_moved : (is js : List (Interval M)) → IsPermutation is js → AreKept is → (u : Serial) → label_at js u ≡ label_at is u
  same_moved is js moves kept u =
      let same = sum_by-IsPermutation (one u) is js moves in
      elim (found is u) [
        | inl none ↦ let zero' = none_held is u none in unlabelled js u (omega arith) ∙ sym none
        | inr f ↦
            let at = Contains-permutation is js f.0 moves f.1 in
            let most = at_most_one is kept u in
            label_held js u at.0 f.0 at.1 at.2 f.2 (omega arith) ∙ sym f.3
      ]

-- ---- sorted intervals

module _ {M : Type 0} (group : M → ℕ) where
  -- the key by which they are sorted
  abbrev pub key : Interval M → ℕ × Serial
  key i = (group i.label, numbered i i.first)

  abbrev pub key_cmp : ℕ × Serial → ℕ × Serial → Ordering
  key_cmp x y = ordering_then (nat_cmp x.0 y.0) (unit_cmp x.1 y.1)

  ends_before : (a b : Interval M) (is : List (Interval M)) → AreKept (a ∷ b ∷ is) → is_lt (unit_cmp (numbered b b.first) (numbered a a.first)) ≡ false → unit_cmp (numbered a a.last) (numbered b b.first) ≡ Less
  ends_before a b is kept sorted =
      let r = kept.0 in
      let s = kept.2.0 in
      let first = index_keeps (numbered a a.first) (numbered b b.first) (omega arith) (omega arith) sorted in
      less_from_index (numbered a a.last) (numbered b b.first) (omega arith) (omega arith) (elim (cases_lt (index (numbered a a.last)) (index (numbered b b.first))) [
        | inl lower ↦ lower
        | inr upper ↦
            let line = same_line (numbered a a.first) (numbered b b.first) (omega arith) in
            let u = numbered b b.first in
            let mine : has a u ≡ true = and_from _ _ line.0 (and_from _ _ line.1 (and_from _ _ (le-leb a.first b.first (omega arith)) (le-leb b.first a.last (omega arith)))) in
            let own : has b u ≡ true = and_from _ _ (same_code-refl b.origin) (and_from _ _ (same_period-refl b.period) (and_from _ _ (le-leb b.first b.first (omega arith)) (le-leb b.first b.last (omega arith)))) in
            let labelled : Some b.label ≡ None = sym (ap (λ t. cond t (Some b.label) (label_at is u)) own) ∙ kept.1 u mine in
            cc
      ])

  before : (a b : Interval M) (is : List (Interval M)) → AreKept (a ∷ b ∷ is) → is_lt (key_cmp (key b) (key a)) ≡ false → IsBefore group a b
  before a b is kept sorted = elim (nat_cmp (group b.label) (group a.label)) as (λ r. r ≡ nat_cmp (group b.label) (group a.label) → is_lt (ordering_then r (unit_cmp (numbered b b.first) (numbered a a.first))) ≡ false → IsBefore group a b) [
    | Less ↦ λ h e. absurd (true≢false e)
    | Equal ↦ λ h e. inr (sym (ranked (group b.label) (group a.label) Equal h), ends_before a b is kept e)
    | Greater ↦ λ h e. inl (ranked (group b.label) (group a.label) Greater h)
  ] refl sorted

  pub ordered_from_sorted : (is : List (Interval M)) → AreKept is → IsSortedByKey key key_cmp is → AreOrdered group is
  ordered_from_sorted [] kept sorted = tt
  ordered_from_sorted (a ∷ []) kept sorted = tt
  ordered_from_sorted (a ∷ b ∷ is) kept sorted = (
    before a b is kept (sorted 0 a (omega arith) (omega arith)),
    ordered_from_sorted (b ∷ is) kept.2 (λ k d z h.
        let e : suc k + 1 ≡ suc (k + 1) = omega arith in
        subst (λ n. is_lt (key_cmp (key (get_or (a ∷ b ∷ is) n d)) (key (get_or (b ∷ is) k d))) ≡ false) e (sorted (suc k) d (omega arith) (omega arith))),
  )

  -- before the walk: a sorted copy, and nothing joined yet
  pub joins_sorted : (is copied moved all out : List (Interval M)) → copied ≡ is → IsPermutation copied moved → IsSortedByKey key key_cmp moved → all ≡ moved → out ≡ [] → AreKept is → Joins group all out all
  joins_sorted is copied moved all out same moves sorted named none kept =
      let held = kept_moved copied moved moves (subst AreKept (sym same) kept) in
      let start : Joins group moved [] moved = record { canonical = tt; ordered = ordered_from_sorted moved held sorted; kept = held; same = λ u. refl } in
      subst (λ xs. Joins group all xs all) (sym none) (subst (λ xs. Joins group xs [] xs) (sym named) start)

  pub same_sorted : (is copied moved all : List (Interval M)) → copied ≡ is → IsPermutation copied moved → all ≡ moved → AreKept is → (u : Serial) → label_at all u ≡ label_at is u
  same_sorted is copied moved all same moves named kept u =
      ap (λ xs. label_at xs u) named ∙ same_moved copied moved moves (subst AreKept (sym same) kept) u ∙ ap (λ xs. label_at xs u) same

  -- ---- one step of the walk

  drop_next : {X : Type 0} (xs : List X) (k : ℕ) (x : X) → k < length xs → x ≡ get_or xs k x → drop k xs ≡ x ∷ drop (k + 1) xs
  drop_next xs k x h e = drop_more xs k x h ∙ ap (λ y. y ∷ drop (k + 1) xs) (sym e)

  pub joins_next : (all js ks : List (Interval M)) (k : ℕ) (n : Interval M) → k < length all → n ≡ get_or all k n → IsOnto js n ks → Joins group all js (drop k all) → Joins group all ks (drop (k + 1) all)
  joins_next all js ks k n h e onto joins = joins_more group all js ks (drop (k + 1) all) n onto (subst (Joins group all js) (drop_next all k n h e) joins)

  -- after it
  pub joins_all : (all js : List (Interval M)) (k : ℕ) → length all ≤ k → Joins group all js (drop k all) → Joins group all js []
  joins_all all js k h joins = subst (Joins group all js) (drop_all k all h) joins
