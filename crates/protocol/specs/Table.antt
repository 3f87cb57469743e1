-- The table of a world: its transactions, in their order, and which of them owe their units.
use Rattle.std.specs.Prelude.{◌&&◌, not, Bool, List, filter, flat_map, Option, Some, None}
use Rattle.std.specs.List.{filter_map}
use Rattle.units.specs.declared.code.Node.{Node}
use Rattle.units.specs.declared.code.Node.TheVariants.{Registry}
use Rattle.status.specs.declared.status.Status.TheVariants.{Completed}
use Rattle.status.specs.Content.{Content}
use Rattle.status.specs.declared.id.TransactionId.{TransactionId}
use Rattle.wire.specs.declared.message.Body.{Body}
use Rattle.wire.specs.declared.message.Body.TheVariants.{Proposal}
use Rattle.protocol.specs.History.{Entry, sends, stands_at}
use Rattle.protocol.specs.Claims.{at_registry, is_received, live_of}
use Rattle.protocol.specs.World.{World}

-- a transfer that was proposed
pub record ProposedTransfer : Type 0 where
  pub id : TransactionId
  pub content : Content

abbrev pub proposed_in : TransactionId → Body → Option ProposedTransfer
proposed_in t (Proposal p) = Some (record { id = t; content = p.content })
proposed_in t _ = None

-- the transfers that a node's messages propose, in the order of their keys
abbrev pub proposed : List Entry → List ProposedTransfer
proposed es = filter_map (λ m. proposed_in m.id m.body) (sends es)

-- the transfers that registries proposed, by their code and then by number
abbrev pub transactions : World → List ProposedTransfer
transactions w = flat_map (λ m. proposed (live_of w (Registry m.code))) w.scheme.members

-- the transfer stands Completed at its initiator and not at its acquirer
abbrev pub is_due : (Node → List Entry) → ProposedTransfer → Bool
is_due f p = stands_at (at_registry f p.id.code) p.id Completed && not (is_received f p.id (Some p.content))

-- the transfers that owe their units
abbrev pub due : World → List ProposedTransfer
due w = filter (is_due (live_of w)) (transactions w)
