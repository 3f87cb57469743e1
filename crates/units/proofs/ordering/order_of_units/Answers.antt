use Rattle.units.proofs.UnitOrder.{order_at}
use Rattle.units.proofs.ordering.order_of_units.Goals as goal

pub returns : goal.returns
returns c a b = order_at a.origin b.origin a.period b.period a.number b.number
