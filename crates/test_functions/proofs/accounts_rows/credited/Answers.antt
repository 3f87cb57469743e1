use Rattle.std.proofs.Common.{ap, ◌∙◌}
use Rattle.std.specs.FinMap.{get, get-empty}
use Rattle.protocol.specs.Keys.{unit_cmp}
use Rattle.test_functions.proofs.accounts_rows.credited.Goals as goal

pub credit-requires-clause-absent : goal.credit-requires-clause-absent
credit-requires-clause-absent c s h = ap (λ m. get m s) c.in_ok-holdings.ensures.unit_holdings ∙ get-empty unit_cmp s
