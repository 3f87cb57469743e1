use Rattle.std.proofs.Common.{◌≡◌, length, map, take}
use Rattle.std.specs.Prelude.{All}
use Rattle.protocol.specs.Registries.{nodes}
use Rattle.world.specs.Cores as node_cores
use Rattle.weave.proofs.Replayed.{AreAheadSoFar}
use Rattle.weave.proofs.cores.add_replayed.Given as goal

abbrev pub invariant-loop-at : goal.invariant-loop-at
invariant-loop-at l = record {
  nodes_are : map node_cores.node_of l.cores.items ≡ take l.at (nodes l.scheme);
  schemes : All (λ core. node_cores.scheme_of core ≡ l.scheme) l.cores.items;
  ahead : AreAheadSoFar l.scheme (map (λ j. j.now) l.journals) (map node_cores.journal_of l.cores.items);
  count : length l.cores.items ≡ l.at;
}
