-- How an exchange that is to deliver a message ends.
use Rattle.std.specs.Prelude.{Bool, true, false, Result, Ok, Err}
use Rattle.wire.specs.declared.reply.Reply.TheVariants as reply
use Rattle.exchanges.specs.declared.ends.Exchange.{Exchange}
use Rattle.exchanges.specs.declared.ends.Exchange.TheVariants.{Answered, WriteFault, ReadFault, PeerEnded, BadReply, NoMemory}
use Rattle.sessions.specs.declared.delivery.Undelivered.{Undelivered}
use Rattle.sessions.specs.declared.delivery.Undelivered.TheVariants.{NoConnection, Ended}

-- the peer replied that the message was received
abbrev pub received : Exchange
received = Answered reply.Received

-- ---- what the code follows; no public contract cites what stands below

-- a connection was made
abbrev pub IsEnded : Undelivered → Type 0
IsEnded NoConnection = ⊥
IsEnded (Ended end) = Unit {0}

-- it ended in another way
abbrev pub IsOtherEnd : Exchange → Type 0
IsOtherEnd (Answered reply.Received) = ⊥
IsOtherEnd (Answered (reply.Refused code)) = Unit {0}
IsOtherEnd (WriteFault n) = Unit {0}
IsOtherEnd ReadFault = Unit {0}
IsOtherEnd PeerEnded = Unit {0}
IsOtherEnd BadReply = Unit {0}
IsOtherEnd NoMemory = Unit {0}

-- the end of the exchange, from the result of a delivery
abbrev pub end_of : {T : Type 0} → Result T Exchange → Exchange
end_of (Ok _) = received
end_of (Err end) = end

-- its connection was cut before a whole line was read
abbrev pub is_cut : Exchange → Bool
is_cut (Answered reply) = false
is_cut (WriteFault n) = true
is_cut ReadFault = true
is_cut PeerEnded = true
is_cut BadReply = false
is_cut NoMemory = false
