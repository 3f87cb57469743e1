-- Journals that some list of events leads to, described by an order of their records.
use Rattle.std.specs.Prelude.{◌≡◌, ℕ, cond, true, List, [], ◌∷◌, ◌++◌, Contains, Option, Some, slice_get}
use Rattle.std.specs.Option.{option_map_or}
use Rattle.units.specs.Code.{same_node}
use Rattle.units.specs.declared.code.Node.{Node}
use Rattle.wire.specs.declared.input.Input.{Input}
use Rattle.wire.specs.declared.input.Input.TheVariants.{Received}
use Rattle.wire.specs.declared.message.Message.{Message}
use Rattle.scheme.specs.declared.registries.Scheme.{Scheme}
use Rattle.protocol.specs.declared.event.Outcome.TheVariants.{Recorded}
use Rattle.protocol.specs.declared.event.Posted.{Posted}
use Rattle.protocol.specs.declared.event.WorldEvent.{WorldEvent}
use Rattle.protocol.specs.declared.event.WorldEvent.TheVariants.{Take, Deliver}
use Rattle.protocol.specs.Deciding.{IsRecorded}
use Rattle.protocol.specs.History.{Transition, sends}
use Rattle.protocol.specs.Registries.{is_node}
use Rattle.protocol.specs.Verdict.{verdict, history}
use Rattle.protocol.specs.World.{World, Station, station, opening, step, run}
use Rattle.protocol.specs.Claims.{committed_part, committed_of}
use Rattle.protocol.specs.WayOut.{IsIdle}

abbrev pub uncommitted : Option Station → List Input
uncommitted station = option_map_or (λ s. s.tail) station []

-- the events end with these committed journals and empty tails
abbrev pub Projects : Scheme → List WorldEvent → (Node → List Input) → Type 0
Projects scheme events journals =
    (n : Node) → (committed_part (station (run (opening scheme) events) n) ≡ journals n) × (uncommitted (station (run (opening scheme) events) n) ≡ [])

-- one record of one node
pub record Placed : Type 0 where
  pub node : Node
  pub input : Input

-- the journals of records in an order, the newest first
abbrev pub journals_of : List Placed → Node → List Input
journals_of [] n = []
journals_of (r ∷ rs) n = cond (same_node n r.node) (journals_of rs n ++ r.input ∷ []) (journals_of rs n)

-- a received message was sent to this node by the records of its sender so far
abbrev pub WasSent : Scheme → (Node → List Input) → Node → Input → Type 0
WasSent scheme past n (Received m moment) = (m.to ≡ n) × Contains (sends (history scheme m.from (past m.from))) m
WasSent scheme past n _ = Unit {0}

-- the node records the input after these journals
abbrev pub IsNext : Scheme → (Node → List Input) → Placed → Type 0
IsNext scheme past r =
    (is_node scheme r.node ≡ true) × ((xs : List Transition) × (verdict scheme r.node (history scheme r.node (past r.node)) r.input ≡ IsRecorded xs)) × WasSent scheme past r.node r.input

-- each record is next when its turn comes
abbrev pub InTurn : Scheme → List Placed → Type 0
InTurn scheme [] = Unit {0}
InTurn scheme (r ∷ rs) = IsNext scheme (journals_of rs) r × InTurn scheme rs

-- the journals are prefixes of others
abbrev pub ArePrefixes : (past whole : Node → List Input) → Type 0
ArePrefixes past whole = (n : Node) → (rest : List Input) × (whole n ≡ past n ++ rest)

-- a record that is next, and with which the journals go on
abbrev pub HasNext : Scheme → (past whole : Node → List Input) → Type 0
HasNext scheme past whole = (r : Placed) × IsNext scheme past r × ((rest : List Input) × (whole r.node ≡ past r.node ++ r.input ∷ rest))

-- every node is idle, and each message that was sent is in the bag
pub record IsQuiet (w : World) : Type 0 where
  pub idle : (n : Node) → is_node w.scheme n ≡ true → IsIdle w n
  pub posted : (n : Node) (key : ℕ) (m : Message) → slice_get (sends (committed_of w n)) key ≡ Some m → Contains w.bag (record { node = n; key = key; message = m })

-- the event gives the node the input
abbrev pub Gives : World → WorldEvent → Node → Input → Type 0
Gives w (Take m order) n input = (m ≡ n) × (order ≡ input)
Gives w (Deliver index moment) n input = (p : Posted) × (slice_get w.bag index ≡ Some p) × (p.message.to ≡ n) × (Received p.message moment ≡ input)
Gives w _ n input = ⊥

-- no node would record the next input of its journal
abbrev pub IsStuck : World → (Node → List Input) → Type 0
IsStuck w journals =
    (n : Node) (input : Input) (rest : List Input) (e : WorldEvent) (place : ℕ) → journals n ≡ committed_part (station w n) ++ input ∷ rest
    → Gives w e n input → (step w e).outcome ≡ Recorded place → ⊥

-- where a stuck world is reached, no events lead to the journals, unless the world has committed all of them
abbrev pub StuckIsFinal : World → (Node → List Input) → Type 0
StuckIsFinal w journals = IsQuiet w → ArePrefixes (λ n. committed_part (station w n)) journals → IsStuck w journals
    → (others : List WorldEvent) → Projects w.scheme others journals → (n : Node) → committed_part (station w n) ≡ journals n

-- ---- how far journals are explained

-- the journals that the events commit
abbrev pub committed_by : Scheme → List WorldEvent → Node → List Input
committed_by scheme events n = committed_part (station (run (opening scheme) events) n)

-- the events commit first records of these journals, and of all events that do, they commit the most at every node
pub record IsFurthestCut (scheme : Scheme) (journals : Node → List Input) (events : List WorldEvent) : Type 0 where
  pub within : ArePrefixes (committed_by scheme events) journals
  pub furthest : (others : List WorldEvent) → ArePrefixes (committed_by scheme others) journals → ArePrefixes (committed_by scheme others) (committed_by scheme events)

-- where a quiet world is stuck, no events whose journals are first records of these commit more at any node
abbrev pub StuckIsFurthest : World → (Node → List Input) → Type 0
StuckIsFurthest w journals = IsQuiet w → ArePrefixes (λ n. committed_part (station w n)) journals → IsStuck w journals
    → (others : List WorldEvent) → ArePrefixes (committed_by w.scheme others) journals → ArePrefixes (committed_by w.scheme others) (λ n. committed_part (station w n))
