use Rattle.std.proofs.Common.{append_assoc}
use Rattle.chart.proofs.events.push_over.Goals as goal

pub returns : goal.returns
returns c = simp append_assoc c.in_ok-write.ensures.bytes
