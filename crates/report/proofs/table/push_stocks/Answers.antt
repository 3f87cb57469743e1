use Rattle.report.specs.Table.{stock_lines}
use Rattle.report.proofs.Texts.{lines_more}
use Rattle.report.proofs.table.push_stocks.Goals as goal

pub loop-stock-preserved : goal.loop-stock-preserved
loop-stock-preserved c = lines_more (stock_lines c.args.form) _ _ _ _ _ c.stock-item.result c.loop-stock-test.true c.stock-item.is c.loop-stock.invariant (rw c.as_slice.ensures at c.in_ok-push_registry.ensures)
