-- Neighbours joined: the meaning of a list of intervals, and that they stay apart and in order.
use Rattle.std.proofs.Common.{◌≡◌, ◌⊎◌, inl, inr, ℕ, ◌+◌, ◌<◌, ◌≤◌, zero, suc, List, [], ◌∷◌, ◌++◌, length, get_or, set, take, Bool, true, false, ◌&&◌, cond, leb, Option, Some, None, append_assoc, refl, sym, ap, ◌∙◌, subst, arith}
use Rattle.std.proofs.lemmas.Bool.{true≢false, false≢true, and_parts, eqb-true}
use Rattle.std.proofs.lemmas.Bool.Decides.{nat_tests}
use Rattle.units.specs.Canonical.{GoesOn, IsBefore, AreCanonical}
use Rattle.units.specs.Code.{same_code}
use Rattle.units.specs.Facts.{IsRange}
use Rattle.units.specs.Following.{joined, IsOnto, is_next}
use Rattle.units.specs.Intervals.{has, label_at, AreKept, numbered}
use Rattle.units.specs.Keys.{unit_cmp}
use Rattle.units.specs.Unit.{same_period}
use Rattle.units.specs.declared.block.Unit.{Unit as Serial}
use Rattle.units.specs.declared.interval.Interval.{Interval}
use Rattle.units.proofs.Same.{code_of_same, period_of_same}

-- ---- the tests as facts

module _ {M : Type 0} where
  pub next_means : (a b : Interval M) → is_next a b ≡ true → (a.origin ≡ b.origin) × (a.period ≡ b.period) × (a.last + 1 ≡ b.first)
  next_means a b h =
      let c = and_parts (same_code a.origin b.origin) _ h in
      let p = and_parts (same_period a.period b.period) _ c.1 in
      (code_of_same a.origin b.origin c.0, period_of_same a.period b.period p.0, eqb-true (a.last + 1) b.first p.1)

-- ---- the last of a list

pub last_split : {X : Type 0} (xs : List X) (k : ℕ) (x : X) → length xs ≡ suc k → x ≡ get_or xs k x → xs ≡ take k xs ++ x ∷ []
last_split [] k x h e = absurd (omega arith)
last_split (y ∷ []) zero x h e = ap (λ z. z ∷ []) (sym e)
last_split (y ∷ []) (suc k) x h e = absurd (omega arith)
last_split (y ∷ z ∷ xs) zero x h e = absurd (omega arith)
last_split (y ∷ z ∷ xs) (suc k) x h e = ap (λ ys. y ∷ ys) (last_split (z ∷ xs) k x (omega arith) e)

pub last_set : {X : Type 0} (xs : List X) (k : ℕ) (x : X) → length xs ≡ suc k → set xs k x ≡ take k xs ++ x ∷ []
last_set [] k x h = absurd (omega arith)
last_set (y ∷ []) zero x h = refl
last_set (y ∷ []) (suc k) x h = absurd (omega arith)
last_set (y ∷ z ∷ xs) zero x h = absurd (omega arith)
last_set (y ∷ z ∷ xs) (suc k) x h = ap (λ ys. y ∷ ys) (last_set (z ∷ xs) k x (omega arith))

-- ---- one interval in place of two

-- numbers in two ranges, the second behind the first, are those in one
two_ranges : {X : Type 0} (o p : Bool) (f t g l x : ℕ) (y z : X) → f ≤ t → t + 1 ≡ g → g ≤ l
    → cond (o && (p && (leb f x && leb x l))) y z ≡ cond (o && (p && (leb f x && leb x t))) y (cond (o && (p && (leb g x && leb x l))) y z)
two_ranges true true f t g l x y z h e k = grind (arith, nat_tests)
two_ranges true false f t g l x y z h e k = refl
two_ranges false p f t g l x y z h e k = refl

one_of : (t a n : Bool) → cond t true false ≡ cond a true (cond n true false) → t ≡ true → (a ≡ true) ⊎ (n ≡ true)
one_of t true n e h = inl refl
one_of t false true e h = inr refl
one_of true false false e h = absurd (true≢false e)
one_of false false false e h = absurd (false≢true h)

module _ {M : Type 0} where
  -- the two intervals to be joined
  pub record Meet (a n : Interval M) : Type 0 where
    pub on : GoesOn a n
    pub first : IsRange a.first a.last
    pub second : IsRange n.first n.last

  label_two : (a n : Interval M) (is : List (Interval M)) (u : Serial) → Meet a n → label_at (joined a n ∷ is) u ≡ label_at (a ∷ n ∷ is) u
  label_two a n is u m =
      two_ranges (same_code a.origin u.origin) (same_period a.period u.period) a.first a.last n.first n.last u.number (Some a.label) (label_at is u) m.first.1 m.on.next m.second.1
      ∙ (λ i. cond (has a u) (Some a.label) (cond (same_code (m.on.origin i) u.origin && (same_period (m.on.period i) u.period && (leb n.first u.number && leb u.number n.last))) (Some (m.on.label i)) (label_at is u)))

  pub label_join : (front : List (Interval M)) (a n : Interval M) (is : List (Interval M)) (u : Serial) → Meet a n → label_at (front ++ joined a n ∷ is) u ≡ label_at (front ++ a ∷ n ∷ is) u
  label_join [] a n is u m = label_two a n is u m
  label_join (i ∷ front) a n is u m = ap (cond (has i u) (Some i.label)) (label_join front a n is u m)

  -- both of two that stand in a list
  pub meet_in : (front : List (Interval M)) (a n : Interval M) (is : List (Interval M)) → GoesOn a n → AreKept (front ++ a ∷ n ∷ is) → Meet a n
  meet_in [] a n is on kept = record { on = on; first = kept.0; second = kept.2.0 }
  meet_in (i ∷ front) a n is on kept = meet_in front a n is on kept.2

  none_rest : (t : Bool) (y : M) (o : Option M) → cond t (Some y) o ≡ None → o ≡ None
  none_rest true y o h = cc
  none_rest false y o h = h

  has_two : (a n : Interval M) (u : Serial) → Meet a n → cond (has (joined a n) u) true false ≡ cond (has a u) true (cond (has n u) true false)
  has_two a n u m =
      two_ranges (same_code a.origin u.origin) (same_period a.period u.period) a.first a.last n.first n.last u.number true false m.first.1 m.on.next m.second.1
      ∙ (λ i. cond (has a u) true (cond (same_code (m.on.origin i) u.origin && (same_period (m.on.period i) u.period && (leb n.first u.number && leb u.number n.last))) true false))

  kept_two : (a n : Interval M) (is : List (Interval M)) → Meet a n → AreKept (a ∷ n ∷ is) → AreKept (joined a n ∷ is)
  kept_two a n is m kept =
      let next = m.on.next in
      let f = m.first in
      let l = m.second in
      ((omega arith, omega arith, omega arith), fresh, kept.2.2)
    where
      fresh : (u : Serial) → has (joined a n) u ≡ true → label_at is u ≡ None
      fresh u h = elim (one_of (has (joined a n) u) (has a u) (has n u) (has_two a n u m) h) [
        | inl first ↦ none_rest (has n u) n.label (label_at is u) (kept.1 u first)
        | inr second ↦ kept.2.1 u second
      ]

  pub kept_join : (front : List (Interval M)) (a n : Interval M) (is : List (Interval M)) → Meet a n → AreKept (front ++ a ∷ n ∷ is) → AreKept (front ++ joined a n ∷ is)
  kept_join [] a n is m kept = kept_two a n is m kept
  kept_join (i ∷ front) a n is m kept = (kept.0, (λ u h. label_join front a n is u m ∙ kept.1 u h), kept_join front a n is m kept.2)

-- ---- the order

module _ {M : Type 0} (group : M → ℕ) where
  -- each comes before the next
  abbrev pub AreOrdered : List (Interval M) → Type 0
  AreOrdered [] = Unit {0}
  AreOrdered (a ∷ []) = Unit {0}
  AreOrdered (a ∷ b ∷ is) = IsBefore group a b × AreOrdered (b ∷ is)

  before_end : (a n b : Interval M) → GoesOn a n → IsBefore group n b → IsBefore group (joined a n) b
  before_end a n b on h = elim h [
    | inl lower ↦ inl (subst (λ m. group m < group b.label) (sym on.label) lower)
    | inr same ↦ inr (ap group on.label ∙ same.0, (λ i. unit_cmp (record { origin = on.origin i; period = on.period i; number = n.last }) (numbered b b.first)) ∙ same.1)
  ]

  ordered_rest : (a n : Interval M) (is : List (Interval M)) → GoesOn a n → AreOrdered (n ∷ is) → AreOrdered (joined a n ∷ is)
  ordered_rest a n [] on h = tt
  ordered_rest a n (b ∷ is) on h = (before_end a n b on h.0, h.1)

  pub ordered_join : (front : List (Interval M)) (a n : Interval M) (is : List (Interval M)) → GoesOn a n → AreOrdered (front ++ a ∷ n ∷ is) → AreOrdered (front ++ joined a n ∷ is)
  ordered_join [] a n is on h = ordered_rest a n is on h.1
  ordered_join (i ∷ []) a n is on h = (h.0, ordered_rest a n is on h.1.1)
  ordered_join (i ∷ j ∷ front) a n is on h = (h.0, ordered_join (j ∷ front) a n is on h.1)

  goes_to : (i a n : Interval M) → GoesOn i (joined a n) → GoesOn i a
  goes_to i a n on = record { origin = on.origin; period = on.period; next = on.next; label = on.label }

  pub canonical_join : (front : List (Interval M)) (a n : Interval M) → AreCanonical group (front ++ a ∷ []) → AreCanonical group (front ++ joined a n ∷ [])
  canonical_join [] a n h = tt
  canonical_join (i ∷ []) a n h = (h.0, (λ on. h.1 (goes_to i a n on)), tt)
  canonical_join (i ∷ j ∷ front) a n h = (h.0, h.1, canonical_join (j ∷ front) a n h.2)

  pub canonical_push : (js : List (Interval M)) (n : Interval M) (is : List (Interval M)) → AreCanonical group js → AreOrdered (js ++ n ∷ is)
      → ((front : List (Interval M)) (a : Interval M) → js ≡ front ++ a ∷ [] → GoesOn a n → ⊥) → AreCanonical group (js ++ n ∷ [])
  canonical_push [] n is h o never = tt
  canonical_push (a ∷ []) n is h o never = (o.0, never [] a refl, tt)
  canonical_push (a ∷ b ∷ js) n is h o never = (h.0, h.1, canonical_push (b ∷ js) n is h.2 o.1 (λ front c e on. never (a ∷ front) c (ap (λ ys. a ∷ ys) e) on))

  -- ---- one step of the walk

  -- those joined so far, before those that are left, mean what all meant
  pub record Joins (all js is : List (Interval M)) : Type 0 where
    pub canonical : AreCanonical group js
    pub ordered : AreOrdered (js ++ is)
    pub kept : AreKept (js ++ is)
    pub same : (u : Serial) → label_at (js ++ is) u ≡ label_at all u

  joins_on : (all front is : List (Interval M)) (a n : Interval M) → GoesOn a n → Joins all (front ++ a ∷ []) (n ∷ is) → Joins all (front ++ joined a n ∷ []) is
  joins_on all front is a n on h =
      let kept = rw append_assoc at h.kept in
      let ordered = rw append_assoc at h.ordered in
      let meet = meet_in front a n is on kept in
      let out : (front ++ joined a n ∷ []) ++ is ≡ front ++ joined a n ∷ is = append_assoc front (joined a n ∷ []) is in
      let before : (front ++ a ∷ []) ++ n ∷ is ≡ front ++ a ∷ n ∷ is = append_assoc front (a ∷ []) (n ∷ is) in
      record {
        canonical = canonical_join front a n h.canonical;
        ordered = subst AreOrdered (sym out) (ordered_join front a n is on ordered);
        kept = subst AreKept (sym out) (kept_join front a n is meet kept);
        same = λ u. ap (λ xs. label_at xs u) out ∙ label_join front a n is u meet ∙ ap (λ xs. label_at xs u) (sym before) ∙ h.same u;
      }

  joins_push : (all js is : List (Interval M)) (n : Interval M) → ((front : List (Interval M)) (a : Interval M) → js ≡ front ++ a ∷ [] → GoesOn a n → ⊥) → Joins all js (n ∷ is) → Joins all (js ++ n ∷ []) is
  joins_push all js is n never h =
      let out : (js ++ n ∷ []) ++ is ≡ js ++ n ∷ is = append_assoc js (n ∷ []) is in
      record {
        canonical = canonical_push js n is h.canonical h.ordered never;
        ordered = subst AreOrdered (sym out) h.ordered;
        kept = subst AreKept (sym out) h.kept;
        same = λ u. ap (λ xs. label_at xs u) out ∙ h.same u;
      }

  pub joins_more : (all js ks is : List (Interval M)) (n : Interval M) → IsOnto js n ks → Joins all js (n ∷ is) → Joins all ks is
  joins_more all js ks is n onto h = elim onto [
    | inl on ↦
        let front = on.0 in
        let a = on.1 in
        subst (λ xs. Joins all xs is) (sym on.4) (joins_on all front is a n on.3 (subst (λ xs. Joins all xs (n ∷ is)) on.2 h))
    | inr new ↦ subst (λ xs. Joins all xs is) (sym new.1) (joins_push all js is n new.0 h)
  ]
