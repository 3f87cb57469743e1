use Rattle.std.proofs.Common.{◌≡◌, ◌++◌, List, map, take}
use Rattle.std.specs.List.{flat_map}
use Rattle.units.specs.declared.code.Node.{Node}
use Rattle.chart.specs.Chart.{first_ones, parties}
use Rattle.chart.proofs.charting.add_all_parties.Given as goal

abbrev pub invariant-loop-message : goal.invariant-loop-message
invariant-loop-message l = (ns : List Node) → l.fn.nodes.items ≡ first_ones ns → l.nodes.items ≡ first_ones (ns ++ flat_map parties (map (λ m. m.now) (take l.message-index l.messages)))
