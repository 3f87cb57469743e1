-- Units that are equal in the order of units are one unit.
use Rattle.std.proofs.Common.{◌≡◌, ℕ, ◌&&◌, eqb, refl, ap, arith}
use Rattle.std.specs.declared.cmp.Ordering.{Ordering}
use Rattle.std.specs.Ordering.{nat_cmp, ordering_then, eq_by_cmp}
use Rattle.std.specs.Cmp.{IsTotalOrder}
use Rattle.std.proofs.lemmas.Map.Lookups.{CmpEqualImpliesEq, exact_pairs, exact_unsigned}
use Rattle.std.proofs.lemmas.Bool.Decides.{nat_tests}
use Rattle.units.specs.contracts.block.UnitOrd.TheImpl.Laws.{total-law as unit-total}
use Rattle.units.specs.contracts.block.PeriodOrd.TheImpl.{cmp-value as period-value}
use Rattle.units.specs.Code.{same_code}
use Rattle.units.specs.Keys.{unit_cmp}
use Rattle.units.specs.Unit.{same_period}
use Rattle.units.specs.declared.block.Unit.{Unit as Serial}
use Rattle.units.specs.declared.block.Period.{Period}
use Rattle.units.specs.declared.block.Period.TheVariants.{First, Second}
use Rattle.units.specs.declared.code.Code.{Code}
use Rattle.units.proofs.Same.{codes_alike}

pub units_total : IsTotalOrder unit_cmp
units_total = unit-total

abbrev pair_cmp : ℕ × ℕ → ℕ × ℕ → Ordering
pair_cmp x y = ordering_then (nat_cmp x.0 y.0) (nat_cmp x.1 y.1)

abbrev period_cmp : Period → Period → Ordering
period_cmp = period-value.it

exact_periods : CmpEqualImpliesEq period_cmp
exact_periods First First e = refl
exact_periods First Second e = absurd (cc)
exact_periods Second First e = absurd (cc)
exact_periods Second Second e = refl

-- units that compare alike are one
pub exact_units : CmpEqualImpliesEq unit_cmp
exact_units a b h =
    let k = exact_pairs pair_cmp (λ (x y : Period × ℕ). ordering_then (period_cmp x.0 y.0) (nat_cmp x.1 y.1))
    (exact_pairs nat_cmp nat_cmp exact_unsigned exact_unsigned) (exact_pairs period_cmp nat_cmp exact_periods exact_unsigned)
    ((a.origin.first, a.origin.second), (a.period, a.number)) ((b.origin.first, b.origin.second), (b.period, b.number)) h in
    let origins : a.origin ≡ b.origin = codes_alike a.origin b.origin (ap (λ x. x.0.0) k) (ap (λ x. x.0.1) k) in
    λ i. record { origin = origins i; period = (k i).1.0; number = (k i).1.1 }

abbrev serial : Code → Period → ℕ → Serial
serial o x n = record { origin = o; period = x; number = n }

-- the comparison for equality as a test
pub tied : (o p : Code) (x y : Period) (m n : ℕ) → eq_by_cmp unit_cmp (serial o x m) (serial p y n) ≡ (same_code p o && (same_period y x && eqb m n))
tied o p First First m n = grind (arith, nat_tests)
tied o p First Second m n = grind (arith, nat_tests)
tied o p Second First m n = grind (arith, nat_tests)
tied o p Second Second m n = grind (arith, nat_tests)
