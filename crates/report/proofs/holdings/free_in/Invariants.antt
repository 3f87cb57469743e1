use Rattle.std.proofs.Common.{◌≡◌, take}
use Rattle.report.specs.ReportLines.{free_shown}
use Rattle.report.proofs.holdings.free_in.Given as goal

abbrev pub invariant-loop-line : goal.invariant-loop-line
invariant-loop-line l = l.count ≡ free_shown (take l.line-index l.lines)
