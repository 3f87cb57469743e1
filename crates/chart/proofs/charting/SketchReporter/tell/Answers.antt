use Rattle.chart.proofs.Charts.{has_drawn_more}
use Rattle.chart.proofs.charting.SketchReporter.tell.Goals as goal

pub returns : goal.returns
returns c = λ scheme events drawn count. has_drawn_more scheme events _ _ _ _ _ _ _ _ _ _ _ drawn c.in_ok-outcome.ensures.ok (rw c.as_world.ensures at c.message_of-message.ensures) c.in_ok-add.ensures
