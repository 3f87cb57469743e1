use Rattle.std.proofs.Common.{arith, subst}
use Rattle.std.proofs.lemmas.List.{take_all}
use Rattle.units.specs.SpanSteps.{AreChangedIn}
use Rattle.units.proofs.SpanBlocks.{change_more}
use Rattle.units.proofs.unit_map.walking.change_in.Goals as goal

pub loop-block-preserved : goal.loop-block-preserved
loop-block-preserved g c =
    change_more (goal.F-post g c.args.change) c.args.blocks.now c.loop-block.block-index c.block-item.result c.args.spans.now c.loop-block.spans c.change_between.new.spans c.unit.result c.unit-in-loop-block.result
    c.loop-block-test.true c.block-item.is c.unit.ensures c.unit-in-loop-block.ensures c.loop-block.invariant c.change_between.ensures.parted c.change_between.ensures.ordered c.change_between.ensures.inside c.change_between.ensures.outside

pub returns : goal.returns
returns g c = subst (λ bs. AreChangedIn (goal.F-post g c.args.change) bs c.args.spans.now c.loop-block.spans) (take_all c.loop-block.block-index c.args.blocks.now (omega arith)) c.loop-block.invariant
