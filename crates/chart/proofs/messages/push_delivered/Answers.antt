use Rattle.std.proofs.Common.{rules, append_assoc}
use Rattle.chart.proofs.messages.push_delivered.Goals as goal

pub returns : goal.returns
returns c = search (rules, append_assoc)
