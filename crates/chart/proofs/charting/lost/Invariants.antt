use Rattle.std.proofs.Common.{◌≡◌, ℕ, List, map, take}
use Rattle.std.specs.BTreeSet.{contains}
use Rattle.std.specs.Ordering.{nat_cmp}
use Rattle.chart.specs.Chart.{Happening, is_delivered, lost}
use Rattle.chart.proofs.charting.lost.Given as goal

abbrev pub invariant-loop-number : goal.invariant-loop-number
invariant-loop-number l = (hs : List Happening) → ((k : ℕ) → contains nat_cmp l.delivered k ≡ is_delivered hs k) → map (λ m. m.now) l.lost.items ≡ lost hs (take l.number l.bag)
