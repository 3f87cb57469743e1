-- Where nodes accept connections.
use Rattle.std.specs.Prelude.{List, Option}
use Rattle.std.specs.List.{find}
use Rattle.std.specs.Option.{option_map}
use Rattle.std.specs.declared.net.socket_addr.SocketAddr.{SocketAddr}
use Rattle.units.specs.Code.{same_node}
use Rattle.units.specs.declared.code.Node.{Node}

-- a node, and where it accepts connections
abbrev pub NodeAddress : Type 0
NodeAddress = Node × SocketAddr

-- the first address of the node
abbrev pub address_of : List NodeAddress → Node → Option SocketAddr
address_of addresses n = option_map (λ p. p.1) (find (λ p. same_node p.0 n) addresses)
