-- Definitions that the code that writes messages and records relies on. No public contract cites them.
use Rattle.status.specs.Order.{IsOrder}
use Rattle.wire.specs.Messages.{IsSound}
use Rattle.wire.specs.declared.input.Input.{Input}
use Rattle.wire.specs.declared.input.Input.TheVariants.{Propose, Received}

-- an order's numbers are short, and a message's values in their ranges
abbrev pub IsSoundInput : Input → Type 0
IsSoundInput (Propose o) = IsOrder o
IsSoundInput (Received m t) = IsSound m.body
IsSoundInput _ = Unit {0}
