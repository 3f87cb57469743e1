-- The orders among the records that a node has committed since its desk opened.
use Rattle.std.specs.Prelude.{◌+◌, ℕ, cond, List, [], ◌∷◌, drop}
use Rattle.protocol.specs.Input.{Input}
use Rattle.node_state.specs.Views.{StateView, committed_records}
use Rattle.node_state.specs.declared.notes.Ticket.{Ticket}
use Rattle.sessions.specs.Orders.{was_ordered}

-- those of the records that were ordered, each with its place; the first record has the given place
abbrev pub ordered_from : ℕ → List Input → List Ticket
ordered_from place [] = []
ordered_from place (input ∷ inputs) = cond (was_ordered input) (record { place = place; input = input } ∷ ordered_from (place + 1) inputs) (ordered_from (place + 1) inputs)

-- the committed records since the opening
abbrev pub since : StateView → List Input
since held = drop held.opening (committed_records held)

-- those of them that were ordered
abbrev pub orders_of : StateView → List Ticket
orders_of held = ordered_from held.opening (since held)
