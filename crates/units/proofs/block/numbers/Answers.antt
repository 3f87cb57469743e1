use Rattle.units.proofs.Blocks.{no_first_cut, no_last_cut, no_first, no_last, no_kind}
use Rattle.units.proofs.block.numbers.Goals as goal

pub returns-in_err-first-clause-none : goal.returns-in_err-first-clause-none
returns-in_err-first-clause-none c = rw c.from_residual.ensures (no_first_cut _ c.in_err-first.ensures.none)

pub returns-in_err-last-clause-none : goal.returns-in_err-last-clause-none
returns-in_err-last-clause-none c =
    rw c.from_residual-in_err-last.ensures
    (no_last_cut _ _ _ c.in_ok-first.ensures.some.0 c.in_ok-first.ensures.some.1 c.in_err-last.ensures.none)

pub returns-in_err-first-2-clause-none : goal.returns-in_err-first-2-clause-none
returns-in_err-first-2-clause-none c =
    rw c.from_residual-in_err-first-2.ensures
    (no_first _ _ _ _ _ c.in_ok-first.ensures.some.0 c.in_ok-last.ensures.some.0 c.in_ok-first.ensures.some.1 c.in_ok-last.ensures.some.1 c.in_err-first-2.ensures.none)

pub returns-in_err-last-2-clause-none : goal.returns-in_err-last-2-clause-none
returns-in_err-last-2-clause-none c =
    rw c.from_residual-in_err-last-2.ensures
    (no_last _ _ _ _ _ c.in_ok-first.ensures.some.0 c.in_ok-last.ensures.some.0 c.in_ok-first.ensures.some.1 c.in_ok-last.ensures.some.1 c.in_err-last-2.ensures.none)

pub returns-in_err-kind-clause-none : goal.returns-in_err-kind-clause-none
returns-in_err-kind-clause-none c =
    rw c.from_residual-in_err-kind.ensures
    (no_kind _ _ _ _ _ c.in_ok-first.ensures.some.0 c.in_ok-last.ensures.some.0 c.in_ok-first.ensures.some.1 c.in_ok-last.ensures.some.1 c.in_err-kind.ensures.none)
