-- The setup of a node that stands alone, from its words, and the faults of such words.
use Rattle.std.specs.Prelude.{◌≡◌, ◌⊎◌, ℕ, true, List, Option, Some, None, map, string_bytes}
use Rattle.std.specs.Net.Grammar.{IsSocketText}
use Rattle.std.specs.declared.alloc.Global.{Global}
use Rattle.std.specs.declared.net.socket_addr.SocketAddr.{SocketAddr}
use Rattle.std.specs.Prelude.{String}
use Rattle.units.specs.Code.{node_text}
use Rattle.units.specs.declared.code.Node.{Node}
use Rattle.units.specs.declared.code.Node.TheVariants.{Itl, Registry}
use Rattle.protocol.specs.Registries.{is_node}
use Rattle.protocol.specs.Scheme.{Scheme}
use Rattle.command_faults.specs.declared.fault.OpFault.{OpFault}
use Rattle.command_faults.specs.declared.fault.OpFault.TheVariants.{Setup as of_setup}
use Rattle.command_faults.specs.declared.setup_fault.SetupFault.{SetupFault}
use Rattle.command_faults.specs.declared.setup_fault.SetupFault.TheVariants.{CleanUp, Exposed, Listen, NotTheLog, Unknown}
use Rattle.command_line.specs.declared.actions.NodeWords.{NodeWords}
use Rattle.sockets.specs.Addresses.{NodeAddress}
use Rattle.node_setup.specs.Peers.{Allows, ArePeers, FailsToLink, HasAll}
use Rattle.node_setup.specs.Words.{IsSeconds}
use Rattle.node_setup.specs.declared.peers.Guard.{Guard}
use Rattle.node_setup.specs.declared.peers.Guard.TheVariants.{Keys, Loopback}
use Rattle.node_setup.specs.declared.setup.Setup.{Setup}

-- whether a file of keys is named
abbrev pub guard_by : Option (String Global) → Guard
guard_by (Some file) = Keys
guard_by None = Loopback

abbrev pub guard_of : NodeWords → Guard
guard_of words = guard_by words.keys

-- ---- the address at which the node listens

abbrev pub IsListenWord : Guard → List ℕ → SocketAddr → Type 0
IsListenWord guard word address = IsSocketText word address × Allows guard address

abbrev pub FailsToListen : Guard → List ℕ → SetupFault → Type 0
FailsToListen guard word Listen = (address : SocketAddr) → IsSocketText word address → ⊥
FailsToListen guard word Exposed = (address : SocketAddr) × IsSocketText word address × (Allows guard address → ⊥)
FailsToListen guard word _ = ⊥

-- ---- how often its clock orders a clean-up

-- a clean-up is an order of the log, and none is ordered if no word says how often
abbrev pub IsTimed : Node → Option (String Global) → Option ℕ → Type 0
IsTimed node None every = every ≡ None
IsTimed node (Some word) every = (node ≡ Itl) × ((seconds : ℕ) × IsSeconds (string_bytes word) seconds × (every ≡ Some seconds))

abbrev pub FailsToTime : Node → Option (String Global) → SetupFault → Type 0
FailsToTime node (Some word) CleanUp = (seconds : ℕ) → IsSeconds (string_bytes word) seconds → ⊥
FailsToTime node (Some word) NotTheLog = node ≡ Itl → ⊥
FailsToTime node word _ = ⊥

-- ---- all of it

module _ (scheme : Scheme) (words : NodeWords) where
  -- the word names the node of the scheme
  pub record IsNodeWord (node : Node) : Type 0 where
    pub text : string_bytes words.node ≡ node_text node
    pub member : is_node scheme node ≡ true

  pub record IsSetup {R : Type 0} (setup : Setup R) : Type 0 where
    pub named : IsNodeWord setup.node
    pub listens : IsListenWord (guard_of words) (string_bytes words.listen) setup.listen
    pub peers : ArePeers scheme setup.node (guard_of words) (map string_bytes words.peers.items) setup.peers
    pub all : HasAll scheme setup.node setup.peers
    pub timed : IsTimed setup.node words.clean_up setup.clean_up

  -- the first fault of these words
  abbrev FailsWithNode : Node → OpFault → Type 0
  FailsWithNode node fault =
      ((cause : SetupFault) × (fault ≡ of_setup cause) × FailsToListen (guard_of words) (string_bytes words.listen) cause)
      ⊎ (FailsToLink scheme node (guard_of words) (map string_bytes words.peers.items) fault
      ⊎ ((cause : SetupFault) × (fault ≡ of_setup cause) × FailsToTime node words.clean_up cause))

  abbrev pub FailsToSetUp : OpFault → Type 0
  FailsToSetUp fault =
      ((fault ≡ of_setup Unknown) × ((node : Node) → IsNodeWord node → ⊥))
      ⊎ ((node : Node) × IsNodeWord node × FailsWithNode node fault)
