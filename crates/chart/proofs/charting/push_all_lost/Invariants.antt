use Rattle.std.proofs.Common.{◌≡◌, ◌++◌, map, take, string_bytes}
use Rattle.std.specs.List.{flat_map}
use Rattle.chart.specs.ChartLines.{lost_line}
use Rattle.chart.proofs.charting.push_all_lost.Given as goal

abbrev pub invariant-loop-message : goal.invariant-loop-message
invariant-loop-message l = string_bytes l.text ≡ string_bytes l.fn.text ++ flat_map lost_line (map (λ m. m.now) (take l.message-index l.messages))
