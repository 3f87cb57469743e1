use Rattle.std.proofs.Common.{◌≡◌, ◌++◌, map, take, string_bytes}
use Rattle.std.specs.List.{flat_map}
use Rattle.world.specs.Transfers.{transfer_of}
use Rattle.report.specs.ReportLines.{due_lines}
use Rattle.report.proofs.debts.push_each_due.Given as goal

abbrev pub invariant-loop-transfer : goal.invariant-loop-transfer
invariant-loop-transfer l = string_bytes l.text ≡ string_bytes l.fn.text ++ flat_map (due_lines l.form) (map transfer_of (take l.transfer-index l.transfers))
