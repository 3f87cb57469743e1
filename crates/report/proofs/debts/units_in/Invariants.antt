use Rattle.std.proofs.Common.{◌≡◌, ◌+◌, take, sum_by}
use Rattle.status.specs.Content.{raws}
use Rattle.safety.specs.NumberOfUnits.{units_of}
use Rattle.report.specs.ReportLines.{shown}
use Rattle.report.proofs.debts.units_in.Given as goal

abbrev pub invariant-loop-block : goal.invariant-loop-block
invariant-loop-block l = l.count ≡ shown (l.fn.before + sum_by units_of (raws (take l.block-index l.blocks)))
