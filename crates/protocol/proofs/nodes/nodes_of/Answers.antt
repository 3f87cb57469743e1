use Rattle.std.proofs.Common.{◌∙◌}
use Rattle.protocol.proofs.NodeIndices.{nodes_more}
use Rattle.protocol.proofs.nodes.nodes_of.Goals as goal

pub loop-member-preserved : goal.loop-member-preserved
loop-member-preserved c =
    c.in_ok-push-2.ensures.items
    ∙ nodes_more c.loop-member.nodes.items c.registries-member-items.result.now c.loop-member.member-index c.member-item.result c.loop-member-test.true c.member-item.is c.loop-member.invariant
