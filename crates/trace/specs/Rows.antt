-- The records of one transaction, in the order of events.
use Rattle.std.specs.Prelude.{ℕ, ◌==◌, ◌&&◌, ◌||◌, not, cond, Bool, true, false, List, [], ◌∷◌, ◌++◌, slice_get, Option, Some, None, option_map}
use Rattle.std.specs.List.{list_any}
use Rattle.std.specs.Option.{option_map_or}
use Rattle.units.specs.Code.{same_node}
use Rattle.units.specs.declared.code.Node.{Node}
use Rattle.status.specs.Id.{same_id}
use Rattle.status.specs.Status.{same_status}
use Rattle.status.specs.declared.id.TransactionId.{TransactionId}
use Rattle.status.specs.declared.status.Status.{Status}
use Rattle.wire.specs.declared.input.Input.{Input}
use Rattle.wire.specs.declared.input.Input.TheVariants.{Request, Ack, Received}
use Rattle.protocol.specs.Claims.{live_of}
use Rattle.protocol.specs.History.{stands, transitions_of}
use Rattle.protocol.specs.Weave.{Placed}
use Rattle.protocol.specs.World.{World, step}
use Rattle.protocol.specs.declared.event.Outcome.{Outcome}
use Rattle.protocol.specs.declared.event.Outcome.TheVariants.{Recorded}
use Rattle.protocol.specs.declared.event.WorldEvent.{WorldEvent}
use Rattle.protocol.specs.declared.event.WorldEvent.TheVariants.{Take, Deliver}

-- one record: its node, its place there, the input, and the transaction's status at that node after it
pub record Row : Type 0 where
  pub node : Node
  pub place : ℕ
  pub input : Input
  pub status : Option Status

-- ---- which records are of a transaction

-- the transaction's status at the node
abbrev pub standing : World → Node → TransactionId → Option Status
standing w n id = stands (transitions_of (live_of w n)) id

-- both are the same status, or there is none in both
abbrev pub same_standing : Option Status → Option Status → Bool
same_standing (Some a) (Some b) = same_status a b
same_standing None None = true
same_standing _ _ = false

-- the input is a message about it, or a request for its cancellation
abbrev pub names : TransactionId → Input → Bool
names id (Request t) = same_id t id
names id (Received m moment) = same_id m.id id
names id _ = false

-- the node posted a message about it with that key
abbrev pub posted_about : World → TransactionId → Node → ℕ → Bool
posted_about w id n key = list_any (λ p. same_id p.message.id id && (same_node p.node n && (p.key == key))) w.bag

-- the input acknowledges a message about it
abbrev pub acknowledges : World → TransactionId → Node → Input → Bool
acknowledges w id n (Ack key) = posted_about w id n key.value
acknowledges w id n _ = false

-- the step from one world to the next changes the transaction's status at the node
abbrev pub moves : (w next : World) → TransactionId → Node → Bool
moves w next id n = not (same_standing (standing w n id) (standing next n id))

abbrev pub is_of : (w next : World) → TransactionId → Placed → Bool
is_of w next id r = names id r.input || (acknowledges w id r.node r.input || moves w next id r.node)

-- ---- the rows of events

-- the input that an event gives to a node: an order or an acknowledgement, or a message of the bag
abbrev pub given : World → WorldEvent → Option Placed
given w (Take n input) = Some (record { node = n; input = input })
given w (Deliver index moment) = option_map (λ p. record { node = p.message.to; input = Received p.message moment }) (slice_get w.bag index)
given w _ = None

-- the row of the input that was given, if it was recorded and is of the transaction
abbrev pub row_of : (w next : World) → TransactionId → Placed → Outcome → List Row
row_of w next id r (Recorded place) = cond (is_of w next id r) (record { node = r.node; place = place; input = r.input; status = standing next r.node id } ∷ []) []
row_of w next id r _ = []

abbrev pub row_by : World → TransactionId → WorldEvent → List Row
row_by w id e = option_map_or (λ r. row_of w (step w e).world id r (step w e).outcome) (given w e) []

-- the rows of the events from that world on
abbrev pub rows : World → TransactionId → List WorldEvent → List Row
rows w id [] = []
rows w id (e ∷ es) = row_by w id e ++ rows (step w e).world id es
