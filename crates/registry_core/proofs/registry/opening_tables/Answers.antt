use Rattle.registry_core.proofs.KeptByOrders.{kept_opening}
use Rattle.registry_core.proofs.registry.opening_tables.Goals as goal

pub returns-clause-kept : goal.returns-clause-kept
returns-clause-kept c = kept_opening c.args.scheme.now c.args.code _ c.new.ensures c.in_ok-opening_holdings.ensures.unit_holdings c.in_ok-opening_holdings.ensures.accounts c.new-2.ensures c.new-3.ensures
