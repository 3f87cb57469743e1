-- A way out: further events after which no transaction is open and every allotted unit is spendable.
use Rattle.std.specs.Prelude.{◌≡◌, ◌≤◌, ◌⊎◌, ℕ, ◌+◌, ◌*◌, is_some, true, List, [], ◌∷◌, Contains, Some, length}
use Rattle.units.specs.declared.block.Unit.{Unit as Serial}
use Rattle.units.specs.declared.code.Code.{Code}
use Rattle.units.specs.declared.code.Node.{Node}
use Rattle.status.specs.declared.id.TransactionId.{TransactionId}
use Rattle.status.specs.declared.status.Status.{Status}
use Rattle.status.specs.declared.status.Status.TheVariants.{Proposed}
use Rattle.protocol.specs.declared.event.WorldEvent.{WorldEvent}
use Rattle.protocol.specs.declared.event.WorldEvent.TheVariants.{Take, Commit, Post, Deliver, Crash, Restart}
use Rattle.protocol.specs.History.{Entry, spendable}
use Rattle.protocol.specs.Registries.{allotted, has_member, is_node}
use Rattle.protocol.specs.World.{World, Station, station, run}
use Rattle.protocol.specs.Claims.{IsUnderWay, StandsAt, at_registry, committed_of, live_of, whole}

-- at some node the transaction has status Proposed, Checked or Accepted
abbrev pub IsOpen : (Node → List Entry) → TransactionId → Type 0
IsOpen f t = (n : Node) × (s : Status) × StandsAt f n t s × ((s ≡ Proposed) ⊎ IsUnderWay s)

-- the node runs and has committed all
pub record IsIdle (w : World) (n : Node) : Type 0 where
  pub at : Station
  pub is : station w n ≡ Some at
  pub runs : at.runs ≡ true
  pub settled : at.tail ≡ []

-- every node is idle, no transaction is open, and each allotted unit is spendable at a registry
pub record AtRest (w : World) : Type 0 where
  pub idle : (n : Node) → is_node w.scheme n ≡ true → IsIdle w n
  pub closed : (t : TransactionId) → IsOpen (committed_of w) t → ⊥
  pub free : (s : Serial) → is_some (allotted w.scheme s) ≡ true → (c : Code) × (has_member w.scheme c ≡ true) × (spendable w.scheme c (at_registry (committed_of w) c) s ≡ true)

-- each journal has room for that many more records
abbrev pub HasRoom : World → ℕ → Type 0
HasRoom w count = (n : Node) → length (whole (station w n)) + count ≤ w.scheme.records

-- starts, commits and messages: no order, no acknowledgement, no clean-up and no crash
abbrev pub OnlyTransport : List WorldEvent → Type 0
OnlyTransport [] = Unit {0}
OnlyTransport (Take n input ∷ es) = ⊥
OnlyTransport (Crash n kept ∷ es) = ⊥
OnlyTransport (Commit n count ∷ es) = OnlyTransport es
OnlyTransport (Post n key ∷ es) = OnlyTransport es
OnlyTransport (Deliver index moment ∷ es) = OnlyTransport es
OnlyTransport (Restart n ∷ es) = OnlyTransport es

-- from a world with room for three records of each open transaction, events of transport alone lead to one at rest
abbrev pub WayOut : World → Type 0
WayOut w = (transactions : List TransactionId) → ((t : TransactionId) → IsOpen (live_of w) t → Contains transactions t) → HasRoom w (3 * length transactions) → (more : List WorldEvent) × OnlyTransport more × AtRest (run w more)
