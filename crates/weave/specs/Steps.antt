-- The record that a node waits for, and the messages of a node that are posted. No public contract cites it.
use Rattle.std.specs.Prelude.{◌≡◌, ◌<◌, ◌≤◌, ◌⊎◌, ℕ, true, false, List, [], ◌∷◌, ◌++◌, Contains, length, map, slice_get, slice_index, option_and_then, Option, Some, Ok, ◌+◌, ◌-◌}
use Rattle.units.specs.Code.{same_node}
use Rattle.units.specs.declared.code.Node.{Node}
use Rattle.status.specs.declared.id.TransactionId.{TransactionId}
use Rattle.wire.specs.declared.input.Input.{Input}
use Rattle.wire.specs.declared.message.Message.{Message}
use Rattle.scheme.specs.declared.registries.Scheme.{Scheme}
use Rattle.protocol.specs.Claims.{committed_of, whole}
use Rattle.protocol.specs.Cores.{answer}
use Rattle.protocol.specs.History.{sends}
use Rattle.protocol.specs.Registries.{is_node, nodes}
use Rattle.protocol.specs.WayOut.{IsIdle}
use Rattle.protocol.specs.Weave.{ArePrefixes, Gives}
use Rattle.protocol.specs.World.{World, Station, is_order, opening, run, sent, station, step}
use Rattle.protocol.specs.declared.event.Outcome.TheVariants.{Recorded}
use Rattle.protocol.specs.declared.event.Posted.{Posted}
use Rattle.protocol.specs.declared.event.WorldEvent.{WorldEvent}
use Rattle.protocol.specs.declared.event.WorldEvent.TheVariants.{Take}
use Rattle.protocol.specs.declared.node_core.Stepped.TheVariants as stepped
use Rattle.weave.specs.Following.{committed_at}

-- ---- the world that has only the committed journals

abbrev pub idle_station : Station → Station
idle_station s = record s { tail = [] }

abbrev pub without_tails : World → World
without_tails w = record w { stations = map idle_station w.stations }

-- the journal of a node with its tail
abbrev pub whole_at : World → Node → List Input
whole_at w n = whole (station w n)

-- ---- the record that a node waits for

-- no event makes the node record the input
abbrev pub IsNotRecorded : World → Node → Input → Type 0
IsNotRecorded w n input = (e : WorldEvent) (place : ℕ) → Gives w e n input → (step w e).outcome ≡ Recorded place → ⊥

-- the event is allowed: the node takes the input as one of its orders, or as a message
abbrev pub IsAllowed : World → WorldEvent → Type 0
IsAllowed w (Take n input) = is_order w n input ≡ true
IsAllowed w _ = Unit {0}

-- the event gives the node the input, and is allowed
pub record Fits (w : World) (e : WorldEvent) (n : Node) (input : Input) : Type 0 where
  pub gives : Gives w e n input
  pub allowed : IsAllowed w e

-- no event makes the node record the next input of its journal
abbrev pub Waits : World → (Node → List Input) → Node → Type 0
Waits w journals n = (input : Input) (rest : List Input) → journals n ≡ committed_at w n ++ input ∷ rest → IsNotRecorded w n input

-- the event gives the node the first record of its tail, and the node records it after the committed ones
pub record IsNextBy (w : World) (n : Node) (e : WorldEvent) : Type 0 where
  pub input : Input
  pub next : slice_get (whole_at w n) (length (committed_at w n)) ≡ Some input
  pub recorded : answer w.scheme n (committed_at w n) input ≡ Ok (stepped.Recorded (length (committed_at w n)))
  pub fits : Fits w e n input

-- ---- the messages that are posted

-- all messages of other nodes are in the bag, and the node's with keys below that one; every node is idle
pub record IsPostedTo (w : World) (n : Node) (key : ℕ) : Type 0 where
  pub idle : (m : Node) → is_node w.scheme m ≡ true → IsIdle w m
  pub own : (k : ℕ) (x : Message) → k < key → slice_get (sends (committed_of w n)) k ≡ Some x → Contains w.bag (record { node = n; key = k; message = x })
  pub others : (m : Node) (k : ℕ) (x : Message) → same_node n m ≡ false → slice_get (sends (committed_of w m)) k ≡ Some x → Contains w.bag (record { node = m; key = k; message = x })

-- the message with that key, of a running node
abbrev pub next_message : World → Node → ℕ → Option Message
next_message w n key = option_and_then (sent w.scheme key) (station w n)

-- the world with one message more in its bag
abbrev pub with_message : World → Node → ℕ → Message → World
with_message w n key m = record w { bag = w.bag ++ record { node = n; key = key; message = m } ∷ [] }

abbrev pub sent_count : World → Node → ℕ
sent_count w n = length (sends (committed_of w n))

-- the bag has the message with that number
abbrev pub HasMessage : List Posted → Message → ℕ → Type 0
HasMessage bag m k = (p : Posted) × (slice_get bag k ≡ Some p) × (p.message ≡ m)

-- each message of the bag stands among the numbers of its transaction
abbrev pub AreAllNumbered : (TransactionId → List ℕ) → List Posted → Type 0
AreAllNumbered numbers bag = (k : ℕ) (p : Posted) → slice_get bag k ≡ Some p → Contains (numbers p.message.id) k

-- ---- how far the journals are followed

-- the events lead to the world, the committed journals are the first records of these, the messages of the bag are
-- numbered, no node posted more messages than it sent, and each node that isn't pending waits
pub record Follows (scheme : Scheme) (journals : Node → List Input) (w : World) (events : List WorldEvent) (numbers : TransactionId → List ℕ) (posted : List ℕ) (pending : List Node) : Type 0 where
  pub led : w ≡ run (opening scheme) events
  pub front : ArePrefixes (committed_at w) journals
  pub numbered : AreAllNumbered numbers w.bag
  pub counted : length posted ≡ length (nodes scheme)
  pub counts : (k : ℕ) (n : Node) → slice_get (nodes scheme) k ≡ Some n → slice_index posted k ≤ sent_count w n
  pub waits : (n : Node) → Contains pending n ⊎ Waits w journals n

-- only nodes of the scheme have journals
abbrev pub HasNodesAlone : Scheme → (Node → List Input) → Type 0
HasNodesAlone scheme journals = (n : Node) → is_node scheme n ≡ false → journals n ≡ []

-- ---- the records that are left

-- how many records of these nodes' journals are left
abbrev pub left_of : (Node → List Input) → World → List Node → ℕ
left_of journals w [] = 0
left_of journals w (n ∷ ns) = (length (journals n) - length (committed_at w n)) + left_of journals w ns
