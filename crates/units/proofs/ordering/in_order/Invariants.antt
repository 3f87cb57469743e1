use Rattle.std.proofs.Common.{drop}
use Rattle.units.proofs.OrderingJoins.{Joins}
use Rattle.units.proofs.ordering.in_order.Given as goal

abbrev pub invariant-loop-next : goal.invariant-loop-next
invariant-loop-next g l = Joins g.M.Label.group l.next-items l.joined.items (drop l.next-index l.next-items)
