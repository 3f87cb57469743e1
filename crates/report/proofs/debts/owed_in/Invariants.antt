use Rattle.std.proofs.Common.{◌≡◌, map, take}
use Rattle.world.specs.Transfers.{transfer_of}
use Rattle.report.specs.ReportLines.{owed_shown}
use Rattle.report.proofs.debts.owed_in.Given as goal

abbrev pub invariant-loop-transfer : goal.invariant-loop-transfer
invariant-loop-transfer l = l.count ≡ owed_shown (map transfer_of (take l.transfer-index l.transfers))
