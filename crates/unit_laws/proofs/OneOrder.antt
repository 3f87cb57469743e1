-- Intervals in order with neighbours joined are determined by the labels that they give to units. The first intervals
-- of two such lists with the same labels begin with the same unit, since none before it has a label; they have the same
-- label; and they end with the same unit, since a further one would be in a neighbour that goes on.
use Rattle.std.specs.Prelude.{nat_le}
use Rattle.std.proofs.Common.{◌≡◌, ℕ, ◌+◌, ◌≤◌, ◌<◌, List, [], ◌∷◌, true, inl, inr, refl, sym, ap, subst, ◌∙◌, arith}
use Rattle.std.proofs.lemmas.Bool.{and_parts, and_from, cases_lt, leb-true, le-leb}
use Rattle.units.specs.Canonical.{AreCanonical, GoesOn, IsBefore}
use Rattle.units.specs.Code.{same_code}
use Rattle.units.specs.Facts.{IsRange}
use Rattle.units.specs.Intervals.{has, numbered}
use Rattle.units.specs.Unit.{period_index, same_period}
use Rattle.units.specs.declared.block.Unit.{Unit as Serial}
use Rattle.units.specs.declared.interval.Interval.{Interval}
use Rattle.units.proofs.Lists.Membership.{In}
use Rattle.units.proofs.Same.{code_of_same, period_of_same, same_code-refl, same_period-refl}
use Rattle.units.proofs.UnitOrder.{code_rank, index, index_rises}

-- ---- intervals and their units

module _ {M : Type 0} where
  -- the numbers are those of a block
  abbrev pub AreInRange : List (Interval M) → Type 0
  AreInRange is = (i : Interval M) → In i is → IsRange i.first i.last

  -- an interval of the list gives the unit the label
  abbrev pub GivesLabel : List (Interval M) → Serial → M → Type 0
  GivesLabel is s m = (i : Interval M) × In i is × (has i s ≡ true) × (i.label ≡ m)

  abbrev pub GiveAsWell : List (Interval M) → List (Interval M) → Type 0
  GiveAsWell is js = (s : Serial) (m : M) → GivesLabel is s m → GivesLabel js s m

  abbrev first_of : Interval M → ℕ
  first_of i = index (numbered i i.first)

  abbrev last_of : Interval M → ℕ
  last_of i = index (numbered i i.last)

  -- a unit of the interval
  record IsOf (i : Interval M) (s : Serial) : Type 0 where
    origin : i.origin ≡ s.origin
    period : i.period ≡ s.period
    low : i.first ≤ s.number
    high : s.number ≤ i.last
    from : first_of i ≤ index s
    to : index s ≤ last_of i

  is_of : (i : Interval M) (s : Serial) → has i s ≡ true → IsOf i s
  is_of i s h =
      let x = and_parts (same_code i.origin s.origin) _ h in
      let y = and_parts (same_period i.period s.period) _ x.1 in
      let z = and_parts (nat_le i.first s.number) (nat_le s.number i.last) y.1 in
      let o = code_of_same i.origin s.origin x.0 in
      let p = period_of_same i.period s.period y.0 in
      let u = ap code_rank o in
      let v = ap period_index p in
      let low = leb-true i.first s.number z.0 in
      let high = leb-true s.number i.last z.1 in
      record { origin = o; period = p; low = low; high = high; from = omega arith; to = omega arith }

  has_numbered : (i : Interval M) (n : ℕ) → i.first ≤ n → n ≤ i.last → has i (numbered i n) ≡ true
  has_numbered i n low high =
      and_from (same_code i.origin i.origin) _ (same_code-refl i.origin) (and_from (same_period i.period i.period) _ (same_period-refl i.period)
      (and_from (nat_le i.first n) (nat_le n i.last) (le-leb i.first n low) (le-leb n i.last high)))

  intervals_same : (i j : Interval M) → i.origin ≡ j.origin → i.period ≡ j.period → i.first ≡ j.first → i.last ≡ j.last → i.label ≡ j.label → i ≡ j
  intervals_same i j o p f l m = λ x. record { origin = o x; period = p x; first = f x; last = l x; label = m x }

-- ---- intervals in order

module _ {M : Type 0} (group : M → ℕ) where
  -- by group, and within one group by their units
  record Precedes (i j : Interval M) : Type 0 where
    groups : group i.label ≤ group j.label
    units : group j.label ≤ group i.label → last_of i < first_of j

  precedes : (i j : Interval M) → IsRange i.first i.last → IsRange j.first j.last → IsBefore group i j → Precedes i j
  precedes i j a b (inl h) = record { groups = omega arith; units = λ e. absurd (omega arith) }
  precedes i j a b (inr h) =
      let same = h.0 in
      let rises = index_rises (numbered i i.last) (numbered j j.first) (omega arith) (omega arith) h.1 in
      record { groups = omega arith; units = λ e. rises }

  through : (i j k : Interval M) → IsRange j.first j.last → Precedes i j → Precedes j k → Precedes i k
  through i j k range a b =
      let x = a.groups in
      let y = b.groups in
      record { groups = omega arith; units = λ e. let u = a.units (omega arith) in let v = b.units (omega arith) in omega arith }

  later : (i : Interval M) (is : List (Interval M)) → AreInRange (i ∷ is) → AreCanonical group (i ∷ is) → (j : Interval M) → In j is → Precedes i j
  later i [] ranged h j m = absurd m
  later i (k ∷ is) ranged h j (inl e) = subst (Precedes i) e (precedes i k (ranged i (inl refl)) (ranged k (inr (inl refl))) h.0)
  later i (k ∷ is) ranged h j (inr m) =
      let range = ranged k (inr (inl refl)) in
      through i k j range (precedes i k (ranged i (inl refl)) range h.0) (later k is (λ x y. ranged x (inr y)) h.2 j m)

  in_order : (i : Interval M) (is : List (Interval M)) → AreCanonical group (i ∷ is) → AreCanonical group is
  in_order i [] h = tt
  in_order i (j ∷ is) h = h.2

  -- intervals in order with one label have no unit in common
  apart : (i j : Interval M) (s : Serial) → Precedes i j → has i s ≡ true → has j s ≡ true → i.label ≡ j.label → ⊥
  apart i j s before x y same =
      let g = ap group same in
      let u = before.units (omega arith) in
      let a = (is_of i s x).to in
      let b = (is_of j s y).from in
      omega arith

  -- no later interval goes on where the first ends
  none_goes_on : (i : Interval M) (is : List (Interval M)) → AreInRange (i ∷ is) → AreCanonical group (i ∷ is) → (m : Interval M) → In m is → GoesOn i m → ⊥
  none_goes_on i [] ranged h m k goes = k
  none_goes_on i (j ∷ is) ranged h m (inl e) goes = h.1 (subst (GoesOn i) (sym e) goes)
  none_goes_on i (j ∷ is) ranged h m (inr k) goes =
      let range = ranged j (inr (inl refl)) in
      let a = precedes i j (ranged i (inl refl)) range h.0 in
      let b = later j is (λ x y. ranged x (inr y)) h.2 m k in
      let same = ap group goes.label in
      let x = a.groups in
      let y = b.groups in
      let u = a.units (omega arith) in
      let v = b.units (omega arith) in
      let o = ap code_rank goes.origin in
      let p = ap period_index goes.period in
      let n = goes.next in
      omega arith

  -- ---- the first intervals of two lists

  -- the first doesn't come after the second
  record NotAfter (j i : Interval M) : Type 0 where
    groups : group j.label ≤ group i.label
    units : group i.label ≤ group j.label → first_of j ≤ first_of i

  record StartsAlike (j i : Interval M) : Type 0 where
    origin : j.origin ≡ i.origin
    period : j.period ≡ i.period
    low : j.first ≤ i.first
    label : j.label ≡ i.label

  module _ (i : Interval M) (is : List (Interval M)) (j : Interval M) (js : List (Interval M)) (in_i : AreInRange (i ∷ is)) (in_j : AreInRange (j ∷ js)) (order : AreCanonical group (j ∷ js))
      (to : GiveAsWell (i ∷ is) (j ∷ js)) where
    -- who gives the first unit of the one list its label in the other
    found : GivesLabel (j ∷ js) (numbered i i.first) i.label
    found = let a = in_i i (inl refl) in to (numbered i i.first) i.label (i, inl refl, has_numbered i i.first (omega arith) (omega arith), refl)

    not_after : NotAfter j i
    not_after =
        let of = is_of found.0 (numbered i i.first) found.2 in
        let g = ap group found.3 in
        let from = of.from in
        elim found.1 [
          | inl e ↦
              let h = ap (λ (z : Interval M). group z.label) e in
              let f = ap first_of e in
              record { groups = omega arith; units = λ x. omega arith }
          | inr m ↦
              let before = later j js in_j order found.0 m in
              let b = before.groups in
              let range = in_j j (inl refl) in
              record { groups = omega arith; units = λ x. let u = before.units (omega arith) in omega arith }
        ]

    -- it isn't before the other one either
    starts_alike : group i.label ≤ group j.label → first_of i ≤ first_of j → StartsAlike j i
    starts_alike groups units =
        let of = is_of found.0 (numbered i i.first) found.2 in
        elim found.1 [
          | inl e ↦
              let here = is_of j (numbered i i.first) (subst (λ (z : Interval M). has z (numbered i i.first) ≡ true) (sym e) found.2) in
              record { origin = here.origin; period = here.period; low = here.low; label = ap (λ (z : Interval M). z.label) e ∙ found.3 }
          | inr m ↦
              let before = later j js in_j order found.0 m in
              let g = ap group found.3 in
              let u = before.units (omega arith) in
              let from = of.from in
              let range = in_j j (inl refl) in
              absurd (omega arith)
        ]

    -- it reaches as far, since no neighbour goes on where it ends
    reaches : j.origin ≡ i.origin → j.period ≡ i.period → j.first ≡ i.first → j.label ≡ i.label → i.last ≤ j.last
    reaches o p first label =
        elim (cases_lt j.last i.last) [
          | inl short ↦
              let range = in_j j (inl refl) in
              let next : Serial = numbered i (j.last + 1) in
              let g = to next i.label (i, inl refl, has_numbered i (j.last + 1) (omega arith) (omega arith), refl) in
              let of = is_of g.0 next g.2 in
              let low = of.low in
              elim g.1 [
                | inl e ↦ let here = is_of j next (subst (λ (z : Interval M). has z next ≡ true) (sym e) g.2) in let high = here.high in absurd (omega arith)
                | inr m ↦
                    let before = later j js in_j order g.0 m in
                    let same = ap group (label ∙ sym g.3) in
                    let u = before.units (omega arith) in
                    let a = ap code_rank of.origin in
                    let b = ap period_index of.period in
                    let c = ap code_rank o in
                    let d = ap period_index p in
                    absurd (none_goes_on j js in_j order g.0 m (record { origin = o ∙ sym of.origin; period = p ∙ sym of.period; next = omega arith; label = label ∙ sym g.3 }))
              ]
          | inr h ↦ h
        ]

  same_first : (i : Interval M) (is : List (Interval M)) (j : Interval M) (js : List (Interval M)) → AreInRange (i ∷ is) → AreInRange (j ∷ js) → AreCanonical group (i ∷ is) → AreCanonical group (j ∷ js)
      → GiveAsWell (i ∷ is) (j ∷ js) → GiveAsWell (j ∷ js) (i ∷ is) → i ≡ j
  same_first i is j js in_i in_j order_i order_j to back =
      let a = not_after i is j js in_i in_j order_j to in
      let b = not_after j js i is in_j in_i order_i back in
      let x = a.groups in
      let y = b.groups in
      let c = starts_alike i is j js in_i in_j order_j to y (b.units x) in
      let d = starts_alike j js i is in_j in_i order_i back x (a.units y) in
      let low = c.low in
      let high = d.low in
      let first : i.first ≡ j.first = omega arith in
      let e = reaches i is j js in_i in_j order_j to c.origin c.period (sym first) c.label in
      let f = reaches j js i is in_j in_i order_i back d.origin d.period first d.label in
      intervals_same i j d.origin d.period first (omega arith) d.label

  -- ---- two lists

  -- without the first interval, they give the same labels still
  rest_gives : (i : Interval M) (is js : List (Interval M)) → AreInRange (i ∷ is) → AreCanonical group (i ∷ is) → GiveAsWell (i ∷ is) (i ∷ js) → GiveAsWell is js
  rest_gives i is js ranged order to s m g =
      let h = to s m (g.0, inr g.1, g.2, g.3) in
      elim h.1 [
        | inl e ↦
            absurd (apart i g.0 s (later i is ranged order g.0 g.1) (subst (λ (z : Interval M). has z s ≡ true) (sym e) h.2) g.2 (ap (λ (z : Interval M). z.label) e ∙ h.3 ∙ sym g.3))
        | inr k ↦ (h.0, k, h.2, h.3)
      ]

  first_gives : (i : Interval M) (is : List (Interval M)) → AreInRange (i ∷ is) → GivesLabel (i ∷ is) (numbered i i.first) i.label
  first_gives i is ranged = let a = ranged i (inl refl) in (i, inl refl, has_numbered i i.first (omega arith) (omega arith), refl)

  pub one_order : (is js : List (Interval M)) → AreInRange is → AreInRange js → AreCanonical group is → AreCanonical group js → GiveAsWell is js → GiveAsWell js is → is ≡ js
  one_order [] [] in_i in_j order_i order_j to back = refl
  one_order [] (j ∷ js) in_i in_j order_i order_j to back = absurd (back (numbered j j.first) j.label (first_gives j js in_j)).1
  one_order (i ∷ is) [] in_i in_j order_i order_j to back = absurd (to (numbered i i.first) i.label (first_gives i is in_i)).1
  one_order (i ∷ is) (j ∷ js) in_i in_j order_i order_j to back =
      let e = same_first i is j js in_i in_j order_i order_j to back in
      let to_same = subst (λ (z : Interval M). GiveAsWell (i ∷ is) (z ∷ js)) (sym e) to in
      let back_same = subst (λ (z : Interval M). GiveAsWell (z ∷ js) (i ∷ is)) (sym e) back in
      let in_same = subst (λ (z : Interval M). AreInRange (z ∷ js)) (sym e) in_j in
      let order_same = subst (λ (z : Interval M). AreCanonical group (z ∷ js)) (sym e) order_j in
      let rest =
      one_order is js (λ x y. in_i x (inr y)) (λ x y. in_j x (inr y)) (in_order i is order_i) (in_order j js order_j) (rest_gives i is js in_i order_i to_same)
      (rest_gives i js is in_same order_same back_same) in
      ap (λ (z : Interval M). z ∷ is) e ∙ ap (λ zs. j ∷ zs) rest
