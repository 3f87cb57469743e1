use Rattle.std.proofs.Common.{◌≡◌, ◌++◌, ℕ, false, map}
use Rattle.std.specs.BTreeSet.{contains}
use Rattle.std.specs.Ordering.{nat_cmp}
use Rattle.std.specs.Prelude.{All}
use Rattle.world.specs.Stations.{station_of, uncommitted_station}
use Rattle.world.proofs.stations.uncommitted_stations.Given as goal

abbrev pub invariant-loop-core : goal.invariant-loop-core
invariant-loop-core l = record {
  cores : map (λ s. s.core) l.stations.items ++ l.core-iterator.rest.items ≡ l.fn.cores.items;
  seen : All (λ s. station_of s ≡ uncommitted_station s.core) l.stations.items;
  posted : All (λ s. (key : ℕ) → contains nat_cmp s.posted key ≡ false) l.stations.items;
}
