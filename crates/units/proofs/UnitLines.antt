-- Units as a line, one number for their origin and period, and a number on it; and tests of units by both.
use Rattle.std.proofs.Common.{◌≡◌, ◌⊎◌, inl, inr, ℕ, ◌<◌, ◌≤◌, Bool, true, false, not, refl, sym, ap, ◌∙◌, arith}
use Rattle.std.specs.declared.cmp.Ordering.{Ordering}
use Rattle.std.specs.declared.cmp.Ordering.TheVariants.{Less, Equal, Greater}
use Rattle.std.specs.BTreeMap.{is_at}
use Rattle.std.specs.Ordering.{is_lt, is_gt, is_eq, ordering_reverse}
use Rattle.std.proofs.lemmas.Bool.{true≢false, false≢true, and_parts, false_from_ne_true, not-true}
use Rattle.units.specs.Intervals.{has}
use Rattle.units.specs.Keys.{unit_cmp, first_unit, unit_numbered}
use Rattle.units.specs.Spans.{interval_at, is_between, after_unit}
use Rattle.units.specs.Unit.{period_index, has_unit}
use Rattle.units.specs.declared.block.RawBlock.{RawBlock}
use Rattle.units.specs.declared.block.Unit.{Unit as Serial}
use Rattle.units.specs.declared.unit_map.Span.{Span}
use Rattle.units.proofs.Cutting.{within, within_from}
use Rattle.units.proofs.Same.{code_of_same, period_of_same}
use Rattle.units.proofs.UnitKeys.{exact_units, units_total}
use Rattle.units.proofs.UnitOrder.{rank, below, less_from_below, up_to_from_sorted, same_line}

-- the line of a unit
unfoldable pub line_of : Serial → ℕ
line_of u = rank u

-- a comes before b
pub record Before (a b : Serial) : Type 0 where
  pub line : line_of a ≤ line_of b
  pub number : line_of b ≤ line_of a → a.number < b.number

-- a comes before b, or is b
pub record UpTo (a b : Serial) : Type 0 where
  pub line : line_of a ≤ line_of b
  pub number : line_of b ≤ line_of a → a.number ≤ b.number

-- ---- tests of the order

pub before_from_less : (a b : Serial) → unit_cmp a b ≡ Less → Before a b
unfolding line_of
before_from_less a b e = let h = below a b e in record { line = h.line; number = h.number }

-- the outcome of a comparison, from its tests
pub less_true : (o : Ordering) → is_lt o ≡ true → o ≡ Less
less_true Less e = refl
less_true Equal e = absurd (false≢true e)
less_true Greater e = absurd (false≢true e)

pub lt_true : (a b : Serial) → is_lt (unit_cmp a b) ≡ true → Before a b
lt_true a b e = before_from_less a b (less_true (unit_cmp a b) e)

pub lt_false : (a b : Serial) → is_lt (unit_cmp a b) ≡ false → UpTo b a
unfolding line_of
lt_false a b e = let h = up_to_from_sorted b a e in record { line = h.line; number = h.number }

pub less_from : (a b : Serial) → Before a b → unit_cmp a b ≡ Less
unfolding line_of
less_from a b h = less_from_below a b (record { line = h.line; number = h.number })

cases : (t : Bool) → (t ≡ true) ⊎ (t ≡ false)
cases true = inl refl
cases false = inr refl

pub lt_false_from : (a b : Serial) → UpTo b a → is_lt (unit_cmp a b) ≡ false
lt_false_from a b h = elim (cases (is_lt (unit_cmp a b))) [
  | inl yes' ↦ let g = lt_true a b yes' in let x = g.number h.line in let y = h.number g.line in absurd (omega arith)
  | inr no' ↦ no'
]

-- ---- one unit

pub same_unit : (a b : Serial) → line_of a ≡ line_of b → a.number ≡ b.number → a ≡ b
unfolding line_of
same_unit a b e f =
    let l = same_line a b e in
    let o = code_of_same a.origin b.origin l.0 in
    let p = period_of_same a.period b.period l.1 in
    λ i. record { origin = o i; period = p i; number = f i }

pub eq_true : (o : Ordering) → is_eq o ≡ true → o ≡ Equal
eq_true Less e = absurd (false≢true e)
eq_true Equal e = refl
eq_true Greater e = absurd (false≢true e)

pub at_true : (a b : Serial) → is_at (unit_cmp a) b ≡ true → a ≡ b
at_true a b e = exact_units a b (eq_true (unit_cmp a b) e)

pub not_less : (a : Serial) → Before a a → ⊥
not_less a h = let n = h.number (omega arith) in absurd (omega arith)

pub own_reverse : (o : Ordering) → o ≡ ordering_reverse o → is_eq o ≡ true
own_reverse Less e = absurd (cc (e))
own_reverse Equal e = refl
own_reverse Greater e = absurd (cc (e))

pub at_self : (a : Serial) → is_at (unit_cmp a) a ≡ true
at_self a = own_reverse (unit_cmp a a) (units_total.antisymm a a)

pub at_false : (a b : Serial) → is_at (unit_cmp a) b ≡ false → a ≡ b → ⊥
at_false a b e same = true≢false (sym (at_self a) ∙ ap (λ q. is_at (unit_cmp a) q) same ∙ e)

pub at_false_from : (a b : Serial) → (a ≡ b → ⊥) → is_at (unit_cmp a) b ≡ false
at_false_from a b other = false_from_ne_true _ (λ e. other (at_true a b e))

reversed : (o : Ordering) → is_gt (ordering_reverse o) ≡ is_lt o
reversed Less = refl
reversed Equal = refl
reversed Greater = refl

flip : (a b : Serial) → is_gt (unit_cmp a b) ≡ is_lt (unit_cmp b a)
flip a b = ap is_gt (units_total.antisymm a b) ∙ reversed (unit_cmp b a)

pub gt_false : (a b : Serial) → is_gt (unit_cmp a b) ≡ false → UpTo a b
gt_false a b e = lt_false b a (sym (flip a b) ∙ e)

pub gt_false_from : (a b : Serial) → UpTo a b → is_gt (unit_cmp a b) ≡ false
gt_false_from a b h = flip a b ∙ lt_false_from b a h

-- no unit comes after itself
pub itself : (u : Serial) → is_gt (unit_cmp u u) ≡ false
itself u = gt_false_from u u (record { line = omega arith; number = λ _. omega arith })

-- one before the other, or not
pub either_way : (a b : Serial) → Before a b ⊎ UpTo b a
either_way a b = elim (cases (is_lt (unit_cmp a b))) [
  | inl yes' ↦ inl (lt_true a b yes')
  | inr no' ↦ inr (lt_false a b no')
]

-- ---- units within an interval

-- the unit's line is that of the first one, and its number from the first one's to the last
pub record In (k : Serial) (last : ℕ) (u : Serial) : Type 0 where
  pub line : line_of k ≡ line_of u
  pub low : k.number ≤ u.number
  pub high : u.number ≤ last

pub one_line : (a b : Serial) → a.origin.first ≡ b.origin.first → a.origin.second ≡ b.origin.second → period_index a.period ≡ period_index b.period → line_of a ≡ line_of b
unfolding line_of
one_line a b e f g = omega arith

abbrev parts_same : Serial → Serial → Type 0
parts_same a b = (a.origin.first ≡ b.origin.first) × (a.origin.second ≡ b.origin.second) × (period_index a.period ≡ period_index b.period)

line_parts : (a b : Serial) → line_of a ≡ line_of b → parts_same a b
unfolding line_of
line_parts a b e =
    let l = same_line a b e in
    let o = code_of_same a.origin b.origin l.0 in
    let p = period_of_same a.period b.period l.1 in
    (ap (λ c. c.first) o, ap (λ c. c.second) o, ap period_index p)

module _ {M : Type 0} where
  pub in_true : (k : Serial) (s : Span M) (u : Serial) → has (interval_at k s) u ≡ true → In k s.last u
  in_true k s u e =
      let w = within k.origin u.origin k.period u.period k.number s.last u.number e in
      record { line = one_line k u w.one w.two w.period; low = w.low; high = w.high }

  pub in_true_from : (k : Serial) (s : Span M) (u : Serial) → In k s.last u → has (interval_at k s) u ≡ true
  in_true_from k s u h =
      let p = line_parts k u h.line in
      within_from k.origin u.origin k.period u.period k.number s.last u.number (record { one = p.0; two = p.1; period = p.2; low = h.low; high = h.high })

  pub in_false_from : (k : Serial) (s : Span M) (u : Serial) → (In k s.last u → ⊥) → has (interval_at k s) u ≡ false
  in_false_from k s u out = false_from_ne_true _ (λ e. out (in_true k s u e))

pub block_true : (b : RawBlock) (u : Serial) → has_unit b u ≡ true → In (first_unit b) b.last u
block_true b u e =
    let w = within b.origin u.origin b.period u.period b.first b.last u.number e in
    record { line = one_line (first_unit b) u w.one w.two w.period; low = w.low; high = w.high }

pub block_true_from : (b : RawBlock) (u : Serial) → In (first_unit b) b.last u → has_unit b u ≡ true
block_true_from b u h =
    let p = line_parts (first_unit b) u h.line in
    within_from b.origin u.origin b.period u.period b.first b.last u.number (record { one = p.0; two = p.1; period = p.2; low = h.low; high = h.high })

-- a line does not ask for the number
pub line_numbered : (b : RawBlock) (n : ℕ) → line_of (unit_numbered b n) ≡ line_of (first_unit b)
unfolding line_of
line_numbered b n = refl

pub line_numbered_at : (k : Serial) (n : ℕ) → line_of (record { origin = k.origin; period = k.period; number = n }) ≡ line_of k
unfolding line_of
line_numbered_at k n = refl

pub line_after : (u : Serial) → line_of (after_unit u) ≡ line_of u
unfolding line_of
line_after u = refl

-- ---- from one unit to another

pub between_true : (a b u : Serial) → is_between a b u ≡ true → UpTo a u × UpTo u b
between_true a b u e =
    let h = and_parts (not (is_lt (unit_cmp u a))) (not (is_lt (unit_cmp b u))) e in
    (lt_false u a (not-true _ h.0), lt_false b u (not-true _ h.1))

pub between_true_from : (a b u : Serial) → UpTo a u → UpTo u b → is_between a b u ≡ true
between_true_from a b u x y = rw (lt_false_from u a x, lt_false_from b u y) refl

pub between_false_from : (a b u : Serial) → (UpTo a u → UpTo u b → ⊥) → is_between a b u ≡ false
between_false_from a b u out = false_from_ne_true _ (λ e. let h = between_true a b u e in out h.0 h.1)

-- units of one line share their origin and period
pub same_origin : (a b : Serial) → line_of a ≡ line_of b → a.origin ≡ b.origin
unfolding line_of
same_origin a b e = code_of_same a.origin b.origin (same_line a b e).0

pub same_period_of : (a b : Serial) → line_of a ≡ line_of b → a.period ≡ b.period
unfolding line_of
same_period_of a b e = period_of_same a.period b.period (same_line a b e).1
