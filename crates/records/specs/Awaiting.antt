-- Messages that aren't acknowledged: where they go, and their keys. No public contract cites it.
use Rattle.std.specs.Prelude.{ℕ, suc, ◌==◌, ◌&&◌, ◌||◌, Bool, false, List, [], ◌∷◌, Option, Some, None}
use Rattle.std.specs.declared.cmp.Ordering.{Ordering}
use Rattle.units.specs.Code.{same_node}
use Rattle.units.specs.declared.code.Code.{Code}
use Rattle.units.specs.declared.code.Node.{Node}
use Rattle.units.specs.declared.code.Node.TheVariants.{Itl, Registry}
use Rattle.wire.specs.declared.message.Message.{Message}
use Rattle.records.specs.declared.unacknowledged.Unacknowledged.{Unacknowledged}
use Rattle.records.specs.contracts.unacknowledged.UnacknowledgedOrd.TheImpl.{cmp-value as unacknowledged-order}

-- by registry, the log first, and then by key
abbrev pub unacknowledged_cmp : Unacknowledged → Unacknowledged → Ordering
unacknowledged_cmp = unacknowledged-order.it

abbrev pub unacknowledged_of : Node → ℕ → Unacknowledged
unacknowledged_of Itl key = record { registry = None; key = key }
unacknowledged_of (Registry c) key = record { registry = Some c; key = key }

-- the node that such a message goes to
abbrev pub peer_of : Option Code → Node
peer_of None = Itl
peer_of (Some c) = Registry c

-- the message with that key is the given one
abbrev pub is_at : ℕ → Message → Unacknowledged → Bool
is_at key m q = same_node m.to (peer_of q.registry) && (key == q.key)

-- the given one is among the messages, whose keys go up from that key
abbrev pub among : ℕ → List Message → Unacknowledged → Bool
among start [] q = false
among start (m ∷ ms) q = is_at start m q || among (suc start) ms q
