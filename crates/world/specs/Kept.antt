-- The fields of the code's world that the protocol's world doesn't have.
use Rattle.std.specs.BTreeSet.{contains}
use Rattle.std.specs.Ordering.{nat_cmp}
use Rattle.std.specs.Prelude.{◌≡◌, ℕ, true, false, List, [], map, All}
use Rattle.scheme.specs.declared.registries.Scheme.{Scheme}
use Rattle.protocol.specs.Registries.{is_node, nodes}
use Rattle.protocol.specs.World as worlds
use Rattle.protocol.specs.World.{was_posted}
use Rattle.protocol.specs.declared.event.Posted.{Posted}
use Rattle.world.specs.Cores.{node_of, scheme_of}
use Rattle.world.specs.Stations.{station_of}
use Rattle.world.specs.declared.station.Station.{Station}

-- the world that these stations and this bag make
abbrev pub world_of : Scheme → List Station → List Posted → worlds.World
world_of scheme stations bag = record { scheme = scheme; stations = map station_of stations; bag = bag }

-- ---- what the code follows; no public contract cites what stands below

-- a station of the scheme that posted nothing yet
pub record IsFresh (scheme : Scheme) (s : Station) : Type 0 where
  pub scheme_is : scheme_of s.core ≡ scheme
  pub none : (key : ℕ) → contains nat_cmp s.posted key ≡ false

-- the core has that scheme, and the station's keys are those of its messages in the bag
pub record IsKept (scheme : Scheme) (bag : List Posted) (s : Station) : Type 0 where
  pub scheme_is : scheme_of s.core ≡ scheme
  pub marked : (key : ℕ) → contains nat_cmp s.posted key ≡ was_posted (world_of scheme [] bag) (node_of s.core) key

-- each node of the scheme has its station, and only nodes of the scheme posted messages
pub record AreKept (scheme : Scheme) (stations : List Station) (bag : List Posted) : Type 0 where
  pub nodes_are : map (λ s. node_of s.core) stations ≡ nodes scheme
  pub kept : All (IsKept scheme bag) stations
  pub among : All (λ p. is_node scheme p.node ≡ true) bag
