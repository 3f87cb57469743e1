-- Intervals of units with a label, and the map from units to labels that a list of them means.
use Rattle.std.specs.Prelude.{◌≡◌, ℕ, ◌+◌, ◌-◌, zero, suc, List, [], ◌∷◌, Bool, true, ◌&&◌, nat_le, Option, Some, None, if◌then◌else◌}
use Rattle.std.specs.FinMap.{FinMap, empty, insert}
use Rattle.units.specs.Code.{same_code}
use Rattle.units.specs.Facts.{IsRange}
use Rattle.units.specs.Keys.{unit_cmp}
use Rattle.units.specs.Unit.{same_period}
use Rattle.units.specs.declared.block.Unit.{Unit as Serial}
use Rattle.units.specs.declared.interval.Interval.{Interval}

-- the unit is one of the interval's: of its origin and period, with a number from its first to its last
abbrev pub has : {M : Type 0} → Interval M → Serial → Bool
has i u = same_code i.origin u.origin && (same_period i.period u.period && (nat_le i.first u.number && nat_le u.number i.last))

-- the label that the first interval with the unit gives it
abbrev pub label_at : {M : Type 0} → List (Interval M) → Serial → Option M
label_at [] u = None
label_at (i ∷ is) u = if has i u then Some i.label else label_at is u

-- the label, where it passes the test
abbrev pub labels_that : {M : Type 0} → (M → Bool) → Option M → Option M
labels_that passes None = None
labels_that passes (Some label) = if passes label then Some label else None

-- numbers in range, and no unit in two of the intervals
abbrev pub AreKept : {M : Type 0} → List (Interval M) → Type 0
AreKept [] = Unit {0}
AreKept (i ∷ is) = IsRange i.first i.last × ((u : Serial) → has i u ≡ true → label_at is u ≡ None) × AreKept is

-- the unit of the interval's origin and period with this number
abbrev pub numbered : {M : Type 0} → Interval M → ℕ → Serial
numbered i n = record { origin = i.origin; period = i.period; number = n }

-- labels of single units
abbrev pub Labels : Type 0 → Type 0
Labels M = FinMap unit_cmp M

-- the map with the interval's label at the given number of its units, from its first on
unfoldable pub put_units : {M : Type 0} → Interval M → ℕ → Labels M → Labels M
put_units i zero m = m
put_units i (suc n) m = insert (put_units i n m) (numbered i (i.first + n)) i.label

-- the number of units of the interval
abbrev pub size : {M : Type 0} → Interval M → ℕ
size i = i.last + 1 - i.first

-- the map that the intervals mean
unfoldable pub labels_of : {M : Type 0} → List (Interval M) → Labels M
labels_of [] = empty
labels_of (i ∷ is) = put_units i (size i) (labels_of is)
