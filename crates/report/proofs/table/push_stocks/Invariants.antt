use Rattle.std.proofs.Common.{◌≡◌, ◌++◌, take, string_bytes}
use Rattle.std.specs.List.{flat_map}
use Rattle.report.specs.Table.{stock_lines}
use Rattle.report.proofs.table.push_stocks.Given as goal

abbrev pub invariant-loop-stock : goal.invariant-loop-stock
invariant-loop-stock l = string_bytes l.text ≡ string_bytes l.fn.text ++ flat_map (stock_lines l.form) (take l.stock-index l.stocks)
