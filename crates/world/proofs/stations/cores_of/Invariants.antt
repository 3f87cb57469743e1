use Rattle.std.proofs.Common.{◌≡◌, ◌++◌, map}
use Rattle.world.proofs.stations.cores_of.Given as goal

abbrev pub invariant-loop-station : goal.invariant-loop-station
invariant-loop-station l = l.cores.items ++ map (λ s. s.core) l.station-iterator.rest.items ≡ map (λ s. s.core) l.fn.stations.items
