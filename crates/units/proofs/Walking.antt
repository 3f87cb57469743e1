-- Walking along a block, from interval to interval.
use Rattle.std.proofs.Common.{◌≡◌, ℕ, ◌≤◌, true, refl, ◌∙◌, arith}
use Rattle.units.specs.Intervals.{has}
use Rattle.units.specs.Unit.{has_unit}
use Rattle.units.specs.declared.block.RawBlock.{RawBlock}
use Rattle.units.specs.declared.block.Unit.{Unit as Serial}
use Rattle.units.specs.declared.interval.Interval.{Interval}
use Rattle.units.proofs.Cutting.{within, within_from}

-- the unit of the block's origin and period with this number
abbrev pub unit_at : RawBlock → ℕ → Serial
unit_at b n = record { origin = b.origin; period = b.period; number = n }

pub block_has : (b : RawBlock) (n : ℕ) → b.first ≤ n → n ≤ b.last → has_unit b (unit_at b n) ≡ true
block_has b n p q = within_from b.origin b.origin b.period b.period b.first b.last n (record { one = refl; two = refl; period = refl; low = p; high = q })

pub number_of : (b : RawBlock) (u : Serial) → has_unit b u ≡ true → (b.first ≤ u.number) × (u.number ≤ b.last)
number_of b u h = let w = within b.origin u.origin b.period u.period b.first b.last u.number h in (w.low, w.high)

module _ {M : Type 0} where
  -- the interval has the block's units between a number that it has and its last
  pub has_between : (b : RawBlock) (i : Interval M) (n : ℕ) (u : Serial) → has i (unit_at b n) ≡ true → has_unit b u ≡ true → n ≤ u.number → u.number ≤ i.last → has i u ≡ true
  has_between b i n u at here low high =
      let x = within i.origin b.origin i.period b.period i.first i.last n at in
      let y = within b.origin u.origin b.period u.period b.first b.last u.number here in
      within_from i.origin u.origin i.period u.period i.first i.last u.number (record { one = x.one ∙ y.one; two = x.two ∙ y.two; period = x.period ∙ y.period; low = omega arith; high = high })

  pub last_above : (b : RawBlock) (i : Interval M) (n : ℕ) → has i (unit_at b n) ≡ true → n ≤ i.last
  last_above b i n at = (within i.origin b.origin i.period b.period i.first i.last n at).high
