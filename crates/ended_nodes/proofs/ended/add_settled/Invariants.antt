use Rattle.std.proofs.Common.{◌≡◌, map, take}
use Rattle.std.specs.Prelude.{All}
use Rattle.protocol.specs.Registries.{nodes}
use Rattle.node_state.specs.Views.{committed_records}
use Rattle.world.specs.Cores.{journal_of, node_of, scheme_of}
use Rattle.ended_nodes.specs.Ended.{seats_in, states_in}
use Rattle.ended_nodes.specs.Settled.{AreSettledTo}
use Rattle.ended_nodes.proofs.ended.add_settled.Given as goal

abbrev pub invariant-loop-at : goal.invariant-loop-at
invariant-loop-at g l = record {
  settled : AreSettledTo l.at l.scheme (states_in l.ended) (seats_in l.ended);
  nodes_are : map node_of l.cores.items ≡ take l.at (nodes l.scheme);
  schemes : All (λ core. scheme_of core ≡ l.scheme) l.cores.items;
  journals : map journal_of l.cores.items ≡ map committed_records (take l.at (states_in l.ended));
}
