use Rattle.std.proofs.Common.{rules, append_assoc}
use Rattle.report.proofs.transactions.push_object.Goals as goal

pub returns : goal.returns
returns c = search (rules, append_assoc)
