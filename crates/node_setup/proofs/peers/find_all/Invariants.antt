use Rattle.std.proofs.Common.{◌≡◌, ℕ, ◌<◌, true, None, get_or}
use Rattle.units.specs.declared.code.Node.{Node}
use Rattle.sockets.specs.Addresses.{address_of}
use Rattle.node_setup.specs.Peers.{is_peer}
use Rattle.node_setup.proofs.peers.find_all.Given as goal

abbrev pub invariant-loop-at : goal.invariant-loop-at
invariant-loop-at g l = (k : ℕ) (d : Node) → k < l.at → is_peer l.scheme l.node (get_or l.names.items k d) ≡ true → address_of l.ports (get_or l.names.items k d) ≡ None → ⊥
