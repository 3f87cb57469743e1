use Rattle.chart.specs.ChartLines.{participant_line}
use Rattle.report.proofs.Texts.{lines_more}
use Rattle.chart.proofs.charting.push_participants.Goals as goal

pub loop-node-preserved : goal.loop-node-preserved
loop-node-preserved c = lines_more participant_line _ _ _ _ _ c.node-item.result c.loop-node-test.true c.node-item.is c.loop-node.invariant c.in_ok-push_participant.ensures
