-- The inputs that a node's threads give its desk: messages that come and acknowledgements of those that it sent, but no
-- orders.
use Rattle.std.specs.Prelude.{◌≡◌, ℕ, Bool, true, false, All, List, Vec, Result, Ok, Some, slice_get}
use Rattle.std.specs.Global.{Global}
use Rattle.units.specs.declared.memory.NoMemory.{NoMemory}
use Rattle.wire.specs.declared.input.Input.{Input}
use Rattle.wire.specs.declared.input.Input.TheVariants.{Propose, Request, OpenAccount, CloseAccount, Ack, CleanUp, Eligible, Received}
use Rattle.node_state.specs.declared.notes.Ticket.{Ticket}
use Rattle.node_state.specs.Views.{SeatView}

-- neither a message nor an acknowledgement
abbrev pub was_ordered : Input → Bool
was_ordered (Propose o) = true
was_ordered (Request t) = true
was_ordered (OpenAccount account) = true
was_ordered (CloseAccount account) = true
was_ordered (CleanUp moment) = true
was_ordered (Eligible c may) = true
was_ordered (Ack key) = false
was_ordered (Received m moment) = false

-- each record of the seat has that property
abbrev pub HasOnly : (Input → Type 0) → SeatView → Type 0
HasOnly IsSuch seat = All (λ (t : Ticket). IsSuch t.input) seat.tickets

-- no record of the seat was ordered
abbrev pub HasNoOrder : SeatView → Type 0
HasNoOrder = HasOnly (λ input. was_ordered input ≡ false)

-- for each node whose threads ended, each seat has that property
abbrev pub AreAll : (SeatView → Type 0) → List (Result (Vec SeatView Global) NoMemory) → Type 0
AreAll IsSuch ends = (k : ℕ) (seats : Vec SeatView Global) → slice_get ends k ≡ Some (Ok seats) → All IsSuch seats.items

-- no seat has an order
abbrev pub HaveNoOrders : List (Result (Vec SeatView Global) NoMemory) → Type 0
HaveNoOrders = AreAll HasNoOrder
