-- The number of units of intervals: the entries of their map that pass a test, counted by intervals.
use Rattle.std.proofs.Common.{◌≡◌, ℕ, ◌+◌, ◌^◌, ◌<◌, ◌≤◌, zero, suc, List, [], ◌∷◌, length, get_or, Bool, true, false, ◌&&◌, cond, T, leb, ltb, Some, None, refl, sym, ap, ◌∙◌, subst, arith}
use Rattle.std.specs.declared.cmp.Ordering.{Ordering}
use Rattle.std.specs.declared.cmp.Ordering.TheVariants.{Less, Equal, Greater}
use Rattle.std.specs.FinMap.{find, put, is_sorted, get, get-entries, len-entries, len-empty, entries, empty, entries-insert, entries_sorted}
use Rattle.std.specs.FinMap.Entries.{by_order, below_all}
use Rattle.std.specs.List.{sum_by, count_by, AllByRecursion}
use Rattle.std.specs.Ordering.{is_eq, is_lt}
use Rattle.std.proofs.lemmas.Bool.{le-leb, le-ltb, and_from}
use Rattle.std.proofs.lemmas.List.Sums.{sum_by-cons, count_by-le-length}
use Rattle.units.specs.Code.{same_code}
use Rattle.units.specs.Facts.{IsRange}
use Rattle.units.specs.Limits.{last_unit}
use Rattle.units.specs.Intervals.{has, AreKept, numbered, Labels, put_units, size, labels_of}
use Rattle.units.specs.Keys.{unit_cmp}
use Rattle.units.specs.Unit.{same_period}
use Rattle.units.specs.declared.block.Unit.{Unit as Serial}
use Rattle.units.specs.declared.interval.Interval.{Interval}
use Rattle.units.proofs.Labels.{get-put_units, get-labels_of}
use Rattle.units.proofs.UnitOrder.{index, index_rises, index_bound}
use Rattle.units.proofs.Same.{same_code-refl, same_period-refl}
use Rattle.units.proofs.UnitKeys.{units_total}

module _ {K X : Type 0} (R : K → K → Ordering) where
  abbrev one : (X → Bool) → K × X → ℕ
  one q e = cond (q e.1) 1 0

  abbrev Missed : K → K × X → List (K × X) → Ordering → Type 0
  Missed k e es r = cond (is_eq r) (Some e.1) (find R k es) ≡ None

  -- an entry at a new key counts once
  count_put : (q : X → Bool) (k : K) (v : X) (es : List (K × X)) → find R k es ≡ None → count_by (λ e. q e.1) (put R k v es) ≡ cond (q v) 1 0 + count_by (λ e. q e.1) es
  count_put q k v [] none = sum_by-cons (one q) (k, v) []
  count_put q k v (e ∷ es) none =
      elim (R k e.0) as (λ r. R k e.0 ≡ r → count_by (λ x. q x.1) (by_order r ((k, v) ∷ e ∷ es) ((e.0, v) ∷ es) (e ∷ put R k v es)) ≡ cond (q v) 1 0 + count_by (λ x. q x.1) (e ∷ es)) [
        | Less ↦ λ h. sum_by-cons (one q) (k, v) (e ∷ es)
        | Equal ↦ λ h. let found = subst (Missed k e es) h none in cc
        | Greater ↦ λ h.
            let later = count_put q k v es (subst (Missed k e es) h none) in
            let put' = sum_by-cons (one q) e (put R k v es) in
            let kept = sum_by-cons (one q) e es in
            omega arith
      ] refl

  -- a property of each key and of a new one
  all_put : (P : K → Type 0) (k : K) (v : X) (es : List (K × X)) → P k → AllByRecursion (λ e. P e.0) es → AllByRecursion (λ e. P e.0) (put R k v es)
  all_put P k v [] here all = (here, tt)
  all_put P k v (e ∷ es) here all =
      elim (R k e.0) as (λ r. AllByRecursion (λ x. P x.0) (by_order r ((k, v) ∷ e ∷ es) ((e.0, v) ∷ es) (e ∷ put R k v es))) [
        | Less ↦ (here, all)
        | Equal ↦ all
        | Greater ↦ (all.0, all_put P k v es here all.1)
      ]

no_length : {A : Type 0} (es : List A) → length es ≡ 0 → es ≡ []
no_length [] e = refl
no_length (x ∷ es) e = absurd (omega arith)

both : (a b : Bool) → T (a && b) → T a × T b
both true b h = (tt, h)
both false b h = absurd h

pub less : (r : Ordering) → T (is_lt r) → r ≡ Less
less Less h = refl
less Equal h = absurd h
less Greater h = absurd h

abbrev pub IsSmall : Serial → Type 0
IsSmall u = u.number ≤ last_unit

-- units in order have room below the bound of their numbers
room : {X : Type 0} (e : Serial × X) (es : List (Serial × X)) → T (is_sorted unit_cmp (e ∷ es)) → AllByRecursion (λ x. IsSmall x.0) (e ∷ es) → index e.0 + length (e ∷ es) ≤ 2 ^ 63
room e [] sorted small = index_bound e.0 small.0
room e (f ∷ es) sorted small =
    let parts = both (below_all unit_cmp e.0 (f ∷ es)) (is_sorted unit_cmp (f ∷ es)) sorted in
    let head = both (is_lt (unit_cmp e.0 f.0)) (below_all unit_cmp e.0 es) parts.0 in
    let rises = index_rises e.0 f.0 small.0 small.1.0 (less (unit_cmp e.0 f.0) head.0) in
    let later = room f es parts.1 small.1 in
    omega arith

pub few : {X : Type 0} (es : List (Serial × X)) → T (is_sorted unit_cmp es) → AllByRecursion (λ x. IsSmall x.0) es → length es ≤ 2 ^ 63
few [] sorted small = omega arith
few (e ∷ es) sorted small = let r = room e es sorted small in omega arith

-- an empty map has no entries
no_entries : {K : Type 0} (R : K → K → Ordering) (X : Type 0) → entries (empty {X = X} {R = R}) ≡ []
no_entries R X = no_length (entries (empty {X = X} {R = R})) (sym (len-entries (empty {X = X} {R = R})) ∙ len-empty R X)

-- the unit behind the first n is none of them
behind : (o p a : Bool) (x y : ℕ) → y ≤ x → (o && (p && (a && ltb x y))) ≡ false
behind true true true x y h = le-ltb x y h
behind true true false x y h = refl
behind true false a x y h = refl
behind false p a x y h = refl

none : (t : Bool) (n : ℕ) → n ≡ cond t 0 0 + n
none true n = omega arith
none false n = omega arith

more : (t : Bool) (n a b c : ℕ) → a ≡ cond t 1 0 + b → b ≡ cond t n 0 + c → a ≡ cond t (suc n) 0 + c
more true n a b c e f = omega arith
more false n a b c e f = omega arith

module _ {M : Type 0} where
  abbrev passing : (M → Bool) → Labels M → ℕ
  passing q m = count_by (λ e. q e.1) (entries m)

  abbrev pub weight : (M → Bool) → Interval M → ℕ
  weight q i = cond (q i.label) (size i) 0

  -- a number from the first to the last is the interval's
  has_numbered : (i : Interval M) (n : ℕ) → i.first ≤ n → n ≤ i.last → has i (numbered i n) ≡ true
  has_numbered i n f l = and_from _ _ (same_code-refl i.origin) (and_from _ _ (same_period-refl i.period) (and_from _ _ (le-leb i.first n f) (le-leb n i.last l)))

  absent_put : (i : Interval M) (n : ℕ) (m : Labels M) → get m (numbered i (i.first + n)) ≡ None → get (put_units i n m) (numbered i (i.first + n)) ≡ None
  absent_put i n m h =
      get-put_units i n m (numbered i (i.first + n))
      ∙ ap (λ t. cond t (Some i.label) (get m (numbered i (i.first + n)))) (behind (same_code i.origin i.origin) (same_period i.period i.period) (leb i.first (i.first + n)) (i.first + n) (i.first + n) (omega arith))
      ∙ h

  abbrev Unlabelled : Interval M → ℕ → Labels M → Type 0
  Unlabelled i n m = (k : ℕ) → k < n → get m (numbered i (i.first + k)) ≡ None

  -- fresh units count each
  passing_put : (q : M → Bool) (i : Interval M) (n : ℕ) (m : Labels M) → Unlabelled i n m → passing q (put_units i n m) ≡ cond (q i.label) n 0 + passing q m
  unfolding put_units
  passing_put q i zero m fresh = none (q i.label) (passing q m)
  passing_put q i (suc n) m fresh =
      let before = put_units i n m in
      let u = numbered i (i.first + n) in
      let missed = sym (get-entries before u) ∙ absent_put i n m (fresh n (omega arith)) in
      more (q i.label) n _ _ _
      (ap (count_by (λ e. q e.1)) (entries-insert units_total before u i.label) ∙ count_put unit_cmp q u i.label (entries before) missed)
      (passing_put q i n m (λ k h. fresh k (omega arith)))

  pub passing_labels : (q : M → Bool) (is : List (Interval M)) → AreKept is → passing q (labels_of is) ≡ sum_by (weight q) is
  unfolding labels_of
  passing_labels q [] kept = ap (count_by (λ e. q e.1)) (no_entries unit_cmp M)
  passing_labels q (i ∷ is) kept =
      passing_put q i (size i) (labels_of is) (λ k h.
      get-labels_of is (numbered i (i.first + k)) ∙ kept.1 (numbered i (i.first + k)) (has_numbered i (i.first + k) (omega arith) (omega (arith, kept.0))))
      ∙ ap (λ n. weight q i + n) (passing_labels q is kept.2)
      ∙ sym (sum_by-cons (weight q) i is)

  small_put : (i : Interval M) (n : ℕ) (m : Labels M) → i.first + n ≤ last_unit + 1 → AllByRecursion (λ e. IsSmall e.0) (entries m) → AllByRecursion (λ e. IsSmall e.0) (entries (put_units i n m))
  unfolding put_units
  small_put i zero m h all = all
  small_put i (suc n) m h all =
      let before = put_units i n m in
      let u = numbered i (i.first + n) in
      subst (AllByRecursion (λ e. IsSmall e.0)) (sym (entries-insert units_total before u i.label))
      (all_put unit_cmp IsSmall u i.label (entries before) (omega arith) (small_put i n m (omega arith) all))

  small_labels : (is : List (Interval M)) → AreKept is → AllByRecursion (λ e. IsSmall e.0) (entries (labels_of is))
  unfolding labels_of
  small_labels [] kept = subst (AllByRecursion (λ e. IsSmall e.0)) (sym (no_entries unit_cmp M)) tt
  small_labels (i ∷ is) kept = small_put i (size i) (labels_of is) (omega (arith, kept.0)) (small_labels is kept.2)

  -- all sizes together stay far below the greatest number
  pub sizes_bound : (is : List (Interval M)) → AreKept is → sum_by size is ≤ 2 ^ 63
  sizes_bound is kept =
      let count = passing_labels (λ m. true) is kept in
      let within = count_by-le-length (λ (e : Serial × M). true) (entries (labels_of is)) in
      let short = few (entries (labels_of is)) (entries_sorted (labels_of is)) (small_labels is kept) in
      omega arith

  kept_range : (is : List (Interval M)) (k : ℕ) (d : Interval M) → AreKept is → k < length is → IsRange (get_or is k d).first (get_or is k d).last
  kept_range [] k d kept h = absurd (omega arith)
  kept_range (i ∷ is) zero d kept h = kept.0
  kept_range (i ∷ is) (suc k) d kept h = kept_range is k d kept.2 (omega arith)

  -- an interval at an index of the list
  pub range_at : (is : List (Interval M)) (k : ℕ) (i : Interval M) → AreKept is → k < length is → i ≡ get_or is k i → IsRange i.first i.last
  range_at is k i kept h e = subst (λ (j : Interval M). IsRange j.first j.last) (sym e) (kept_range is k i kept h)
