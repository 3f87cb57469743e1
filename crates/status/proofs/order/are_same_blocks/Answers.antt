use Rattle.std.proofs.Common.{◌∙◌}
use Rattle.status.proofs.Orders.{same_ordered}
use Rattle.status.proofs.order.are_same_blocks.Goals as goal

pub returns : goal.returns
returns c = c.eq.ensures ∙ same_ordered c.args.a.now c.args.b.now
