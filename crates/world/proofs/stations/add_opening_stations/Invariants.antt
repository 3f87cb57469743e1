use Rattle.std.proofs.Common.{◌≡◌, ◌∷◌, map, take}
use Rattle.std.specs.Prelude.{All}
use Rattle.units.specs.declared.code.Node.TheVariants.{Itl, Registry}
use Rattle.protocol.specs.World.{opening_station}
use Rattle.world.specs.Kept.{IsFresh}
use Rattle.world.specs.Stations.{station_of}
use Rattle.world.proofs.stations.add_opening_stations.Given as goal

abbrev pub invariant-loop-member : goal.invariant-loop-member
invariant-loop-member l = record {
  opens : map station_of l.stations.items ≡ opening_station Itl ∷ map (λ m. opening_station (Registry m.code)) (take l.member-index l.member-items);
  fresh : All (IsFresh l.scheme) l.stations.items;
}
