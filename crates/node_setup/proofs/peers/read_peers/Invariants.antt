use Rattle.std.proofs.Common.{map, take}
use Rattle.std.specs.Prelude.{string_bytes}
use Rattle.node_setup.specs.Peers.{ArePeers}
use Rattle.node_setup.proofs.peers.read_peers.Given as goal

abbrev pub invariant-loop-at : goal.invariant-loop-at
invariant-loop-at g l = ArePeers l.scheme l.node l.guard (take l.at (map string_bytes l.words)) l.ports
