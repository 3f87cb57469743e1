use Rattle.world.specs.Transfers.{transfer_of}
use Rattle.report.specs.ReportLines.{transaction_line}
use Rattle.report.specs.Table.{row_of}
use Rattle.report.proofs.Texts.{parts_more}
use Rattle.report.proofs.table.push_transactions.Goals as goal

pub loop-transfer-preserved : goal.loop-transfer-preserved
loop-transfer-preserved c =
    parts_more transfer_of (λ p. transaction_line c.args.form (row_of c.args.world.now p)) _ _ _ _ _ c.transfer-item.result c.loop-transfer-test.true c.transfer-item.is c.loop-transfer.invariant
    (rw c.row_of.ensures at c.in_ok-push_transaction.ensures)
