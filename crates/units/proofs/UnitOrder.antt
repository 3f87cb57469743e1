-- The orders of codes and of units in numbers.
-- A comparison of codes is one of their ranks (`codes_compare`). Of two units one comes before the other where its rank
-- is lower, or as low with a lower number: `below` and `less_from_below` go from the comparison to that and back,
-- `up_to_from_sorted` reads what a sort leaves. Where numbers are bounded, the order is that of one number for each
-- unit, its `index`.
use Rattle.std.proofs.Common.{◌≡◌, ◌⊎◌, inl, inr, ℕ, ◌+◌, ◌*◌, ◌^◌, ◌<◌, ◌≤◌, true, false, refl, sym, arith, subst}
use Rattle.std.specs.declared.cmp.Ordering.{Ordering}
use Rattle.std.specs.declared.cmp.Ordering.TheVariants.{Less, Equal, Greater}
use Rattle.std.specs.Ordering.{MatchOrdering, nat_cmp, ordering_then, is_lt}
use Rattle.std.proofs.lemmas.Bool.{true≢false, and_from, eq-eqb, cases_lt}
use Rattle.units.proofs.Lists.Comparisons.{compared, compared_then}
use Rattle.units.specs.Code.{same_code}
use Rattle.units.specs.Limits.{last_unit}
use Rattle.units.specs.Keys.{code_cmp, unit_cmp}
use Rattle.units.specs.Unit.{period_index, same_period}
use Rattle.units.specs.declared.block.Period.{Period}
use Rattle.units.specs.declared.block.Period.TheVariants.{First, Second}
use Rattle.units.specs.declared.block.Unit.{Unit as Serial}
use Rattle.units.specs.declared.code.Code.{Code}

-- ---- codes

-- the two letters as one number, whose order is that of codes
abbrev pub code_rank : Code → ℕ
code_rank c = 26 * c.first + c.second

abbrev CodesSay : Code → Code → Ordering → Type 0
CodesSay a b r = MatchOrdering r (code_rank a < code_rank b) (code_rank a ≡ code_rank b) (code_rank b < code_rank a)

pub codes_compare : (a b : Code) → MatchOrdering (code_cmp a b) (code_rank a < code_rank b) (code_rank a ≡ code_rank b) (code_rank b < code_rank a)
codes_compare a b =
    let k = a.letters in
    let l = b.letters in
    compared_then (CodesSay a b) a.first b.first (nat_cmp a.second b.second)
    (λ h. omega arith)
    (λ h. compared (CodesSay a b) a.second b.second (λ g. omega arith) (λ g. omega arith) (λ g. omega arith))
    (λ h. omega arith)

pub code_below : (a b : Code) → code_cmp a b ≡ Less → code_rank a < code_rank b
code_below a b e = subst (CodesSay a b) e (codes_compare a b)

pub code_less : (a b : Code) → code_rank a < code_rank b → code_cmp a b ≡ Less
code_less a b h = elim (code_cmp a b) as (λ r. CodesSay a b r → r ≡ Less) [
  | Less ↦ λ _. refl
  | Equal ↦ λ e. absurd (omega arith)
  | Greater ↦ λ g. absurd (omega arith)
] (codes_compare a b)

-- two neighbours after a sort
pub code_up : (a b : Code) → is_lt (code_cmp b a) ≡ false → code_rank a ≤ code_rank b
code_up a b sorted = elim (code_cmp b a) as (λ r. CodesSay b a r → is_lt r ≡ false → code_rank a ≤ code_rank b) [
  | Less ↦ λ h e. absurd (true≢false e)
  | Equal ↦ λ h e. omega arith
  | Greater ↦ λ h e. omega arith
] (codes_compare b a) sorted

-- ---- units

pub periods : (p : Period) → (1 ≤ period_index p) × (period_index p ≤ 2)
periods First = (omega arith, omega arith)
periods Second = (omega arith, omega arith)

-- a number for the origin and the period, in their order
abbrev pub rank : Serial → ℕ
rank s = 2 * code_rank s.origin + period_index s.period

-- a comes before b
pub record IsBelow (a b : Serial) : Type 0 where
  pub line : rank a ≤ rank b
  pub number : rank b ≤ rank a → a.number < b.number

-- a comes before b, or is b
pub record IsUpTo (a b : Serial) : Type 0 where
  pub line : rank a ≤ rank b
  pub number : rank b ≤ rank a → a.number ≤ b.number

-- the derived order, in numbers
pub order_at : (o p : Code) (x y : Period) (i j : ℕ)
    → unit_cmp (record { origin = o; period = x; number = i }) (record { origin = p; period = y; number = j })
    ≡ ordering_then (ordering_then (nat_cmp o.first p.first) (nat_cmp o.second p.second)) (ordering_then (nat_cmp (period_index x) (period_index y)) (nat_cmp i j))
order_at o p First First i j = refl
order_at o p First Second i j = refl
order_at o p Second First i j = refl
order_at o p Second Second i j = refl

-- the comparison of units as facts
abbrev Says : Serial → Serial → Ordering → Type 0
Says a b r = MatchOrdering r (IsBelow a b) (IsUpTo b a × IsUpTo a b) (IsBelow b a)

below_line : (a b : Serial) → rank a < rank b → IsBelow a b
below_line a b h = record { line = omega arith; number = λ e. omega arith }

says : (a b : Serial) → Says a b (unit_cmp a b)
says a b =
    let p = periods a.period in
    let q = periods b.period in
    let k = a.origin.letters in
    let l = b.origin.letters in
    let rest = ordering_then (nat_cmp (period_index a.period) (period_index b.period)) (nat_cmp a.number b.number) in
    subst (Says a b) (sym (order_at a.origin b.origin a.period b.period a.number b.number))
    (compared_then (λ r. Says a b (ordering_then r rest)) a.origin.first b.origin.first (nat_cmp a.origin.second b.origin.second)
    (λ h. below_line a b (omega arith))
    (λ e. compared (λ r. Says a b (ordering_then r rest)) a.origin.second b.origin.second
    (λ h. below_line a b (omega arith))
    (λ f. compared_then (Says a b) (period_index a.period) (period_index b.period) (nat_cmp a.number b.number)
    (λ h. below_line a b (omega arith))
    (λ g. compared (Says a b) a.number b.number
    (λ h. record { line = omega arith; number = λ x. h })
    (λ h. (record { line = omega arith; number = λ x. omega arith }, record { line = omega arith; number = λ x. omega arith }))
    (λ h. record { line = omega arith; number = λ x. h }))
    (λ h. below_line b a (omega arith)))
    (λ h. below_line b a (omega arith)))
    (λ h. below_line b a (omega arith)))

pub below : (a b : Serial) → unit_cmp a b ≡ Less → IsBelow a b
below a b e = subst (Says a b) e (says a b)

pub less_from_below : (a b : Serial) → IsBelow a b → unit_cmp a b ≡ Less
less_from_below a b before = elim (unit_cmp a b) as (λ r. Says a b r → r ≡ Less) [
  | Less ↦ λ h. refl
  | Equal ↦ λ h. let i = before.number h.0.line in let j = h.0.number before.line in absurd (omega arith)
  | Greater ↦ λ h. let i = before.number h.line in let j = h.number before.line in absurd (omega arith)
] (says a b)

-- two neighbours after a sort
pub up_to_from_sorted : (a b : Serial) → is_lt (unit_cmp b a) ≡ false → IsUpTo a b
up_to_from_sorted a b sorted = elim (unit_cmp b a) as (λ r. Says b a r → is_lt r ≡ false → IsUpTo a b) [
  | Less ↦ λ h e. absurd (true≢false e)
  | Equal ↦ λ h e. h.0
  | Greater ↦ λ h e. record { line = h.line; number = λ x. let n = h.number x in omega arith }
] (says b a) sorted

-- one of two units comes before the other, or the other is up to it
pub either : (a b : Serial) → IsBelow a b ⊎ IsUpTo b a
either a b = elim (unit_cmp a b) as (λ r. Says a b r → IsBelow a b ⊎ IsUpTo b a) [
  | Less ↦ λ h. inl h
  | Equal ↦ λ h. inr h.0
  | Greater ↦ λ h. inr (record { line = h.line; number = λ e. let n = h.number e in omega arith })
] (says a b)

-- units of one rank share their origin and period
pub same_line : (a b : Serial) → rank a ≡ rank b → (same_code a.origin b.origin ≡ true) × (same_period a.period b.period ≡ true)
same_line a b e =
    let p = periods a.period in
    let q = periods b.period in
    let k = a.origin.letters in
    let l = b.origin.letters in
    let f : a.origin.first ≡ b.origin.first = omega arith in
    let g : a.origin.second ≡ b.origin.second = omega arith in
    let h : period_index a.period ≡ period_index b.period = omega arith in
    (and_from _ _ (eq-eqb _ _ f) (eq-eqb _ _ g), eq-eqb _ _ h)

-- ---- units whose numbers are bounded

-- a number for the unit, in the order of units
abbrev pub index : Serial → ℕ
index s = rank s * 1_000_000_000_000_000 + s.number

pub index_from_below : (a b : Serial) → a.number ≤ last_unit → b.number ≤ last_unit → IsBelow a b → index a < index b
index_from_below a b m n h = elim (cases_lt (rank a) (rank b)) [
  | inl lower ↦ omega arith
  | inr upper ↦ let i = h.line in let j = h.number upper in omega arith
]

pub index_from_up_to : (a b : Serial) → a.number ≤ last_unit → b.number ≤ last_unit → IsUpTo a b → index a ≤ index b
index_from_up_to a b m n h = elim (cases_lt (rank a) (rank b)) [
  | inl lower ↦ omega arith
  | inr upper ↦ let i = h.line in let j = h.number upper in omega arith
]

pub index_rises : (a b : Serial) → a.number ≤ last_unit → b.number ≤ last_unit → unit_cmp a b ≡ Less → index a < index b
index_rises a b m n e = index_from_below a b m n (below a b e)

pub index_keeps : (a b : Serial) → a.number ≤ last_unit → b.number ≤ last_unit → is_lt (unit_cmp b a) ≡ false → index a ≤ index b
index_keeps a b m n sorted = index_from_up_to a b m n (up_to_from_sorted a b sorted)

pub less_from_index : (a b : Serial) → a.number ≤ last_unit → b.number ≤ last_unit → index a < index b → unit_cmp a b ≡ Less
less_from_index a b m n h = less_from_below a b (record { line = omega arith; number = λ e. omega arith })

pub index_bound : (s : Serial) → s.number ≤ last_unit → index s + 1 ≤ 2 ^ 63
index_bound s h = let p = periods s.period in let k = s.origin.letters in omega arith
