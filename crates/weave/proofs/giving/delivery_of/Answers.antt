use Rattle.units.proofs.Lists.OneValue.{clash}
use Rattle.weave.specs.Steps.{without_tails}
use Rattle.weave.proofs.Tried.{fits_delivery, no_delivery, other_delivery}
use Rattle.weave.proofs.giving.delivery_of.Goals as goal

pub returns-then-not-are_same_nodes-clause-none : goal.returns-then-not-are_same_nodes-clause-none
returns-then-not-are_same_nodes-clause-none c =
    other_delivery (without_tails c.args.world.now) c.args.node c.args.message.now c.args.moment
    (λ to. clash c.are_same_nodes.result (c.are_same_nodes.ensures.1 to) c.if-not-are_same_nodes.true)

pub returns-in_err-number-clause-none : goal.returns-in_err-number-clause-none
returns-in_err-number-clause-none c = rw c.from_residual.ensures (no_delivery (without_tails c.args.world.now) c.args.node c.args.message.now c.args.moment c.in_err-number.ensures.none)

pub returns-clause-some : goal.returns-clause-some
returns-clause-some c =
    fits_delivery c.args.world.now c.args.node c.args.message.now c.args.moment c.in_ok-number.number c.in_ok-number.ensures.some
    (c.are_same_nodes.ensures.0 c.if-not-are_same_nodes.false)
