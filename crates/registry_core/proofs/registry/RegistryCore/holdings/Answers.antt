use Rattle.registry_core.proofs.CoreReadings.{unit_holding_so, account_status_so}
use Rattle.registry_core.proofs.registry.RegistryCore.holdings.Goals as goal

pub returns-clause-unit_holdings : goal.returns-clause-unit_holdings
returns-clause-unit_holdings c = unit_holding_so c.self.inside.tables.scheme c.self.inside.tables.code c.self.inside.tables c.self.invariant c.args.self.now c.self.view_is

pub returns-clause-accounts : goal.returns-clause-accounts
returns-clause-accounts c = account_status_so c.self.inside.tables.scheme c.self.inside.tables.code c.self.inside.tables c.self.invariant c.args.self.now c.self.view_is
