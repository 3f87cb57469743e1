use Rattle.input_lines.proofs.Parties.{no_third}
use Rattle.input_lines.proofs.orders.parties.Goals as goal

pub returns-in_err-to_account-clause-none : goal.returns-in_err-to_account-clause-none
returns-in_err-to_account-clause-none c =
    rw c.from_residual-in_err-to_account.ensures (no_third _ _ _ _ _ c.in_ok-account.ensures.some.0 c.in_ok-acquirer.ensures.some c.in_err-to_account.ensures.none)
