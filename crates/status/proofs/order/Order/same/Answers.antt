use Rattle.std.proofs.Common.{rules}
use Rattle.status.proofs.Orders.{told}
use Rattle.status.proofs.order.Order.same.Goals as goal

pub returns-then-self-other-2-clause-meaning : goal.returns-then-self-other-2-clause-meaning
returns-then-self-other-2-clause-meaning c = search (rules, told c.args.self.now c.args.other.now)
