use Rattle.report.proofs.debts.push_number.Goals as goal

pub returns-in_ok-writeln-in-Json : goal.returns-in_ok-writeln-in-Json
returns-in_ok-writeln-in-Json c = rw c.in-Json.is (rw c.owed_in-owed.ensures at c.in_ok-writeln-in-Json.ensures.bytes)
