use Rattle.std.proofs.Common.{◌≡◌, All, length, map, take}
use Rattle.run.specs.Wiring.{peers_of}
use Rattle.run.proofs.wiring.nodes_to_run.Given as goal

abbrev pub invariant-loop-at : goal.invariant-loop-at
invariant-loop-at g l = record {
  count : length l.nodes.items ≡ l.at;
  names : map (λ n. n.node) l.nodes.items ≡ take l.at l.names;
  desks : map (λ n. n.desk.now) l.nodes.items ≡ take l.at l.desks;
  peers : map (λ n. n.peers.now) l.nodes.items ≡ take l.at (peers_of l.names);
  network : All (λ n. n.network.now ≡ l.network) l.nodes.items;
}
