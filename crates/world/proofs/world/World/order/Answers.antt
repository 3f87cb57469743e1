use Rattle.std.proofs.Common.{sym, refl, ◌∙◌}
use Rattle.protocol.specs.World.{step}
use Rattle.world.proofs.world.World.order.Goals as goal

pub returns-then-is_order-clause-ok : goal.returns-then-is_order-clause-ok
unfolding step
returns-then-is_order-clause-ok c = rw (sym c.is_order.ensures ∙ c.if-is_order.true) c.take.ensures.ok

pub returns-else-is_order-clause-ok : goal.returns-else-is_order-clause-ok
unfolding step
returns-else-is_order-clause-ok c = rw (sym c.is_order.ensures ∙ c.if-is_order.false) refl
