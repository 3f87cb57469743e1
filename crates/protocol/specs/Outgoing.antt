-- The effects of the records of a history on its node's messages.
use Rattle.std.specs.Prelude.{List, [], ◌∷◌, ◌++◌}
use Rattle.wire.specs.declared.input.Input.{Input}
use Rattle.wire.specs.declared.input.Input.TheVariants.{Ack}
use Rattle.wire.specs.declared.message.Message.{Message}
use Rattle.protocol.specs.History.{Entry, messages_of}
use Rattle.records.specs.Sending.{Sent, Sends, Acknowledges}

-- an acknowledgement sends nothing, and any other input sends the messages of its transitions
abbrev pub did : Input → List Message → Sent
did (Ack key) ms = Acknowledges key.value
did _ ms = Sends ms

-- the oldest first
abbrev pub outgoing : List Entry → List Sent
outgoing [] = []
outgoing (e ∷ es) = outgoing es ++ did e.input (messages_of e.transitions) ∷ []
