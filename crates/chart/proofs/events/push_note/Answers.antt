use Rattle.std.proofs.Common.{rules, append_assoc}
use Rattle.chart.proofs.events.push_note.Goals as goal

pub returns : goal.returns
returns c = search (rules, append_assoc)
