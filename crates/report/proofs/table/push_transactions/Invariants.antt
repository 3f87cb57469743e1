use Rattle.std.proofs.Common.{◌≡◌, ◌++◌, map, take, string_bytes}
use Rattle.std.specs.List.{flat_map}
use Rattle.world.specs.Transfers.{transfer_of}
use Rattle.report.specs.ReportLines.{transaction_line}
use Rattle.report.specs.Table.{row_of}
use Rattle.report.proofs.table.push_transactions.Given as goal

abbrev pub invariant-loop-transfer : goal.invariant-loop-transfer
invariant-loop-transfer l = string_bytes l.text ≡ string_bytes l.fn.text ++ flat_map (λ p. transaction_line l.form (row_of l.world p)) (map transfer_of (take l.transfer-index l.transfer-items))
