use Rattle.std.proofs.Common.{◌≡◌, take}
use Rattle.protocol.proofs.NodeIndices.{all_nodes}
use Rattle.protocol.proofs.nodes.nodes_of.Given as goal

abbrev pub invariant-loop-member : goal.invariant-loop-member
invariant-loop-member l = l.nodes.items ≡ all_nodes (take l.member-index l.member-items)
