-- The peers that a node's words name, and the faults of such words.
use Rattle.std.specs.Prelude.{◌≡◌, ◌≢◌, ◌⊎◌, ℕ, Bool, true, false, All, List, [], ◌∷◌, ◌++◌, None, Some, slice_get, take}
use Rattle.std.specs.List.{AllZip}
use Rattle.std.specs.declared.net.socket_addr.SocketAddr.{SocketAddr}
use Rattle.units.specs.Apart.{Pairwise}
use Rattle.units.specs.declared.code.Node.{Node}
use Rattle.units.specs.declared.code.Node.TheVariants.{Itl, Registry}
use Rattle.protocol.specs.Registries.{has_member, nodes}
use Rattle.protocol.specs.Scheme.{Scheme}
use Rattle.command_faults.specs.declared.fault.OpFault.{OpFault}
use Rattle.command_faults.specs.declared.fault.OpFault.TheVariants.{Setup, NoMemory}
use Rattle.command_faults.specs.declared.setup_fault.SetupFault.TheVariants.{Exposed, Missing, Peer, Stranger, Twice}
use Rattle.sockets.specs.Addresses.{NodeAddress, address_of}
use Rattle.connections.specs.Loopback.{LeadsBack}
use Rattle.node_setup.specs.Words.{IsPeerWord}
use Rattle.node_setup.specs.declared.peers.Guard.{Guard}
use Rattle.node_setup.specs.declared.peers.Guard.TheVariants.{Keys, Loopback}

-- a registry sends to the log, and the log to each registry of the scheme
abbrev pub is_peer : Scheme → Node → Node → Bool
is_peer scheme Itl Itl = false
is_peer scheme Itl (Registry c) = has_member scheme c
is_peer scheme (Registry c) Itl = true
is_peer scheme (Registry c) (Registry d) = false

-- without keys an address is of the loopback interface
abbrev pub Allows : Guard → SocketAddr → Type 0
Allows Keys address = Unit {0}
Allows Loopback address = LeadsBack address

module _ (scheme : Scheme) (node : Node) where
  -- each node that this one sends to has an address
  abbrev pub HasAll : List NodeAddress → Type 0
  HasAll peers = All (λ (n : Node). is_peer scheme node n ≡ true → address_of peers n ≡ None → ⊥) (nodes scheme)

  module _ (guard : Guard) where
    -- the word names the peer, which this node sends to, at an address that it may have
    pub record WritesPeer (word : List ℕ) (peer : NodeAddress) : Type 0 where
      pub named : IsPeerWord word peer
      pub sends : is_peer scheme node peer.0 ≡ true
      pub allowed : Allows guard peer.1

    -- each word names the peer at its place, and no two name the same node
    pub record ArePeers (words : List (List ℕ)) (peers : List NodeAddress) : Type 0 where
      pub each : AllZip WritesPeer words peers
      pub once : Pairwise (λ p q. p.0 ≢ q.0) peers

    -- why a word names no further peer
    abbrev pub FailsToAdd : List NodeAddress → List ℕ → OpFault → Type 0
    FailsToAdd old word (Setup Peer) = (peer : NodeAddress) → IsPeerWord word peer → ⊥
    FailsToAdd old word (Setup (Stranger n)) = (address : SocketAddr) × IsPeerWord word (n, address) × (is_peer scheme node n ≡ false)
    FailsToAdd old word (Setup Exposed) = (peer : NodeAddress) × IsPeerWord word peer × (Allows guard peer.1 → ⊥)
    FailsToAdd old word (Setup (Twice n)) = (address : SocketAddr) × IsPeerWord word (n, address) × (address_of old n ≡ None → ⊥)
    FailsToAdd old word NoMemory = Unit {0}
    FailsToAdd old word _ = ⊥

    -- the first words name these peers, and the next one names none
    pub record HasWrongPeer (words : List (List ℕ)) (fault : OpFault) : Type 0 where
      pub at : ℕ
      pub word : List ℕ
      pub is : slice_get words at ≡ Some word
      pub peers : List NodeAddress
      pub before : ArePeers (take at words) peers
      pub fails : FailsToAdd peers word fault

  -- a node that this one sends to has no address
  abbrev pub FailsToFind : List NodeAddress → OpFault → Type 0
  FailsToFind peers (Setup (Missing n)) = (is_peer scheme node n ≡ true) × (address_of peers n ≡ None)
  FailsToFind peers NoMemory = Unit {0}
  FailsToFind peers _ = ⊥

  -- the first word that names no further peer; or all do, and a node is missing
  abbrev pub FailsToLink : Guard → List (List ℕ) → OpFault → Type 0
  FailsToLink guard words fault = HasWrongPeer guard words fault ⊎ ((peers : List NodeAddress) × ArePeers guard words peers × FailsToFind peers fault)

-- ---- what the code follows; no public contract cites what stands below

-- the word names a peer, which those before it don't, and it was added to them
module _ (scheme : Scheme) (node : Node) (guard : Guard) where
  pub record AddsPeer (old : List NodeAddress) (word : List ℕ) (new : List NodeAddress) : Type 0 where
    pub peer : NodeAddress
    pub writes : WritesPeer scheme node guard word peer
    pub unlike : address_of old peer.0 ≡ None
    pub added : new ≡ old ++ peer ∷ []
