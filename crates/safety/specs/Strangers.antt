-- A world among strangers. Trusted nodes follow the protocol. Any other node is a stranger, and may post any message in
-- its own name at any time. All messages that strangers will ever post are in the bag from the beginning: each may be
-- delivered at any time, any number of times, or never.
use Rattle.std.specs.Prelude.{◌≡◌, false, Bool, List, Contains, map}
use Rattle.units.specs.declared.code.Node.{Node}
use Rattle.wire.specs.declared.message.Message.{Message}
use Rattle.scheme.specs.declared.registries.Scheme.{Scheme}
use Rattle.protocol.specs.declared.event.Posted.{Posted}
use Rattle.protocol.specs.World.{World, opening}

-- no message is in the name of a trusted node
abbrev pub AreStrange : (Node → Bool) → List Message → Type 0
AreStrange trusted ms = (m : Message) → Contains ms m → trusted m.from ≡ false

-- the message as if its sender had posted it
abbrev pub in_bag : Message → Posted
in_bag m = record { node = m.from; key = 0; message = m }

-- the opening world, with these messages in its bag
abbrev pub opening_among : Scheme → List Message → World
opening_among scheme ms = record (opening scheme) { bag = map in_bag ms }
