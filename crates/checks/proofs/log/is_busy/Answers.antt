use Rattle.checks.proofs.LabelledUnits.{some_there}
use Rattle.checks.proofs.log.is_busy.Goals as goal

pub returns : goal.returns
returns c = some_there c.args.under_way.now c.args.block.now.raw c.has_none_of.result c.has_none_of.ensures.none c.has_none_of.ensures.some
