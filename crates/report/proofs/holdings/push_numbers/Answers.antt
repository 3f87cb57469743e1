use Rattle.std.proofs.Common.{append_assoc}
use Rattle.report.proofs.holdings.push_numbers.Goals as goal

pub returns-in_ok-writeln-in-Lines : goal.returns-in_ok-writeln-in-Lines
returns-in_ok-writeln-in-Lines c = rw c.in-Lines.is (simp append_assoc c.in_ok-writeln-in-Lines.ensures.bytes)
