use Rattle.std.proofs.Common.{◌≡◌, take}
use Rattle.report.specs.ReportLines.{held_shown}
use Rattle.report.proofs.holdings.held_in.Given as goal

abbrev pub invariant-loop-line : goal.invariant-loop-line
invariant-loop-line l = l.count ≡ held_shown (take l.line-index l.lines)
