use Rattle.chart.proofs.FirstNodes.{node_added, node_there}
use Rattle.chart.proofs.charting.add_node.Goals as goal

pub returns-in_ok-push : goal.returns-in_ok-push
returns-in_ok-push c = λ ns so. node_added _ _ _ ns c.args.node c.as_slice.ensures.value so c.if-not-has_node.ensures c.in_ok-push.ensures.items

pub returns-else-not-has_node : goal.returns-else-not-has_node
returns-else-not-has_node c = λ ns so. node_there _ _ ns c.args.node c.as_slice.ensures.value so c.if-not-has_node.ensures
