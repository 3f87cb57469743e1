use Rattle.units.proofs.Blocks.{no_period_cut, no_origin, no_period}
use Rattle.units.proofs.block.RawBlock.read.Goals as goal

pub returns-in_err-period-clause-none : goal.returns-in_err-period-clause-none
returns-in_err-period-clause-none c =
    rw c.from_residual-in_err-period.ensures
    (no_period_cut _ _ _ c.in_ok-origin.ensures.some.0 c.in_ok-origin.ensures.some.1 c.in_err-period.ensures.none)

pub returns-in_err-origin-2-clause-none : goal.returns-in_err-origin-2-clause-none
returns-in_err-origin-2-clause-none c =
    rw c.from_residual-in_err-origin-2.ensures
    (no_origin _ _ _ _ _ c.in_ok-origin.ensures.some.0 c.in_ok-period.ensures.some.0 c.in_ok-origin.ensures.some.1 c.in_ok-period.ensures.some.1 c.in_err-origin-2.ensures.none)

pub returns-in_err-period-2-clause-none : goal.returns-in_err-period-2-clause-none
returns-in_err-period-2-clause-none c =
    rw c.from_residual-in_err-period-2.ensures
    (no_period _ _ _ _ _ c.in_ok-origin.ensures.some.0 c.in_ok-period.ensures.some.0 c.in_ok-origin.ensures.some.1 c.in_ok-period.ensures.some.1 c.in_err-period-2.ensures.none)
