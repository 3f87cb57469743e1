-- Intervals as sets of units: which of them meet a block.
use Rattle.std.proofs.Common.{◌≡◌, ℕ, ◌≤◌, Bool, true, ◌&&◌, eqb, leb, refl, sym, ◌∙◌, arith, inl, inr}
use Rattle.std.proofs.lemmas.Bool.{and_parts, cases_lt, leb-true, le-leb}
use Rattle.std.proofs.lemmas.Bool.Decides.{nat_tests}
use Rattle.units.specs.Code.{same_code}
use Rattle.units.specs.Cutting.{meets}
use Rattle.units.specs.Intervals.{has}
use Rattle.units.specs.Unit.{same_period, period_index, has_unit}
use Rattle.units.specs.declared.block.RawBlock.{RawBlock}
use Rattle.units.specs.declared.block.Unit.{Unit as Serial}
use Rattle.units.specs.declared.code.Code.{Code}
use Rattle.units.specs.declared.block.Period.{Period}
use Rattle.units.specs.declared.interval.Interval.{Interval}

-- a test of a line and of two numbers, as plain facts
pub record Holds (o q : Code) (p r : Period) (a b : Bool) : Type 0 where
  pub first : o.first ≡ q.first
  pub second : o.second ≡ q.second
  pub period : period_index p ≡ period_index r
  pub left : a ≡ true
  pub right : b ≡ true

abbrev tests : Code → Code → Period → Period → Bool → Bool → Bool
tests o q p r a b = same_code o q && (same_period p r && (a && b))

pub holds : (o q : Code) (p r : Period) (a b : Bool) → tests o q p r a b ≡ true → Holds o q p r a b
holds o q p r a b e =
    let h = and_parts (same_code o q) (same_period p r && (a && b)) e in
    let l = and_parts (eqb o.first q.first) (eqb o.second q.second) h.0 in
    let n = and_parts (same_period p r) (a && b) h.1 in
    let m = and_parts a b n.1 in
    record { first = grind (arith, nat_tests, l.0); second = grind (arith, nat_tests, l.1); period = grind (arith, nat_tests, n.0); left = m.0; right = m.1 }

pub holds_from : (o q : Code) (p r : Period) (a b : Bool) → Holds o q p r a b → tests o q p r a b ≡ true
holds_from o q p r a b h = rw (h.left, h.right) (grind (arith, nat_tests, h.first, h.second, h.period))

module _ {M : Type 0} where
  pub meets-true : (b : RawBlock) (i : Interval M) → meets b i ≡ true → Holds i.origin b.origin i.period b.period (leb i.first b.last) (leb b.first i.last)
  meets-true b i e = holds i.origin b.origin i.period b.period (leb i.first b.last) (leb b.first i.last) e

-- the numbers of a unit and of the interval that has it
pub record Within (o q : Code) (p r : Period) (first last n : ℕ) : Type 0 where
  pub one : o.first ≡ q.first
  pub two : o.second ≡ q.second
  pub period : period_index p ≡ period_index r
  pub low : first ≤ n
  pub high : n ≤ last

pub within : (o q : Code) (p r : Period) (f l n : ℕ) → tests o q p r (leb f n) (leb n l) ≡ true → Within o q p r f l n
within o q p r f l n e =
    let h = holds o q p r (leb f n) (leb n l) e in
    record { one = h.first; two = h.second; period = h.period; low = leb-true f n h.left; high = leb-true n l h.right }

pub within_from : (o q : Code) (p r : Period) (f l n : ℕ) → Within o q p r f l n → tests o q p r (leb f n) (leb n l) ≡ true
within_from o q p r f l n w = holds_from o q p r (leb f n) (leb n l) (record { first = w.one; second = w.two; period = w.period; left = le-leb f n w.low; right = le-leb n l w.high })

abbrev serial : Code → Period → ℕ → Serial
serial o p n = record { origin = o; period = p; number = n }

module _ {M : Type 0} where
  -- a block and an interval with a unit in common meet
  pub has_meets : (b : RawBlock) (i : Interval M) (u : Serial) → has i u ≡ true → has_unit b u ≡ true → meets b i ≡ true
  has_meets b i u p q =
      let x = within i.origin u.origin i.period u.period i.first i.last u.number p in
      let y = within b.origin u.origin b.period u.period b.first b.last u.number q in
      holds_from i.origin b.origin i.period b.period (leb i.first b.last) (leb b.first i.last)
      (record { first = x.one ∙ sym y.one; second = x.two ∙ sym y.two; period = x.period ∙ sym y.period; left = le-leb i.first b.last (omega arith); right = le-leb b.first i.last (omega arith) })

  -- a unit that they have in common, where they meet
  pub meeting_unit : (b : RawBlock) (i : Interval M) → b.first ≤ b.last → i.first ≤ i.last → meets b i ≡ true → (u : Serial) × (has i u ≡ true) × (has_unit b u ≡ true)
  meeting_unit b i p q m =
      let h = meets-true b i m in
      let low : i.first ≤ b.last = leb-true i.first b.last h.left in
      let high : b.first ≤ i.last = leb-true b.first i.last h.right in
      elim (cases_lt i.first b.first) [
        | inl lt ↦ (
          serial b.origin b.period b.first,
          within_from i.origin b.origin i.period b.period i.first i.last b.first (record { one = h.first; two = h.second; period = h.period; low = omega arith; high = high }),
          within_from b.origin b.origin b.period b.period b.first b.last b.first (record { one = refl; two = refl; period = refl; low = omega arith; high = p }),
        )
        | inr ge ↦ (
          serial b.origin b.period i.first,
          within_from i.origin b.origin i.period b.period i.first i.last i.first (record { one = h.first; two = h.second; period = h.period; low = omega arith; high = q }),
          within_from b.origin b.origin b.period b.period b.first b.last i.first (record { one = refl; two = refl; period = refl; low = ge; high = low }),
        )
      ]
