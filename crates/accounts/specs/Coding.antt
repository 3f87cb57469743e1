-- The encoding of holdings by which a proof distinguishes them.
use Rattle.std.specs.Prelude.{refl}
use Rattle.std.specs.Coded.{Coded, code_by, coded×, coded_ℕ}
use Rattle.std.specs.FinMap as map
use Rattle.std.specs.Ordering.{nat_cmp}
use Rattle.units.specs.Keys.{unit_cmp}
use Rattle.units.specs.contracts.block.Unit as serial
use Rattle.accounts.specs.Holdings.{HoldingsView}
use Rattle.accounts.specs.contracts.unit_holding.UnitHolding as unit_holding
use Rattle.accounts.specs.contracts.unit_holding.AccountStatus as account_status
use Rattle.accounts.specs.declared.unit_holding.UnitHolding.{UnitHolding}
use Rattle.accounts.specs.declared.unit_holding.AccountStatus.{AccountStatus}

-- as the pair of the two maps
abbrev pub held_code : Coded HoldingsView
held_code =
    code_by (map.FinMap nat_cmp AccountStatus × map.FinMap unit_cmp UnitHolding) (coded× (map.code coded_ℕ account_status.the_row.coded) (map.code serial.the_row.coded unit_holding.the_row.coded)) (λ h. (h.accounts, h.unit_holdings)) (λ p. record { accounts = p.0; unit_holdings = p.1 }) (λ _. refl)
