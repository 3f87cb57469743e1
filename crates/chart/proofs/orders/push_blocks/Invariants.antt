use Rattle.std.proofs.Common.{◌≡◌, ◌++◌, take, string_bytes}
use Rattle.chart.specs.ChartLines.{blocks_text}
use Rattle.chart.proofs.orders.push_blocks.Given as goal

abbrev pub invariant-loop-block : goal.invariant-loop-block
invariant-loop-block l = string_bytes l.text ≡ string_bytes l.fn.text ++ blocks_text (take l.block-index l.blocks)
