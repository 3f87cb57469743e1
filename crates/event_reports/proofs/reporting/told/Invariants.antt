use Rattle.std.proofs.Common.{length}
use Rattle.event_reports.proofs.Told.{Told}
use Rattle.event_reports.proofs.reporting.told.Given as goal

abbrev pub invariant-loop-rest : goal.invariant-loop-rest
invariant-loop-rest g l = Told (g.T.Reporter.was_told l.reporter l.scheme) l.lines l.fn.room l.rest l.room l.number

abbrev pub decreases-loop-rest : goal.decreases-loop-rest
decreases-loop-rest g l = length l.rest
