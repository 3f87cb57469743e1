use Rattle.std.proofs.Common.{◌∙◌}
use Rattle.status.proofs.UnitsOfContents.{covered}
use Rattle.world.proofs.views.has_unit.Goals as goal

pub returns : goal.returns
returns c = c.has_unit_in.ensures ∙ covered c.units.result.now c.args.content.now.units c.args.unit.now c.units.ensures.value
