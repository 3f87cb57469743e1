use Rattle.std.proofs.Common.{arith, subst}
use Rattle.std.proofs.lemmas.List.{take_all}
use Rattle.units.specs.SpanSteps.{AreJoinedIn}
use Rattle.units.proofs.SpanBlocks.{along_more}
use Rattle.units.proofs.unit_map.joining.join_along.Goals as goal

pub loop-block-preserved : goal.loop-block-preserved
loop-block-preserved g c =
    along_more c.args.blocks.now c.loop-block.block-index c.block-item.result c.args.spans.now c.loop-block.spans c.join_between.new.spans c.unit.result c.unit-in-loop-block.result
    c.loop-block-test.true c.block-item.is c.unit.ensures c.unit-in-loop-block.ensures c.loop-block.invariant c.join_between.ensures.parted c.join_between.ensures.ordered c.join_between.ensures.means c.join_between.ensures.seams

pub returns : goal.returns
returns g c = subst (λ bs. AreJoinedIn bs c.args.spans.now c.loop-block.spans) (take_all c.loop-block.block-index c.args.blocks.now (omega arith)) c.loop-block.invariant
