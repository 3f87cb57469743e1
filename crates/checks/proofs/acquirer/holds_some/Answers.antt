use Rattle.checks.proofs.FoundUnits.{held_told}
use Rattle.checks.proofs.acquirer.holds_some.Goals as goal

pub returns : goal.returns
returns c = λ scheme code known knows. held_told scheme code c.args.holdings.now known knows c.args.blocks.now c.holds_any.result c.holds_any.ensures.some c.holds_any.ensures.none
