-- The transitions that the tables make, each by a name of its own.
use Rattle.std.proofs.Common.{ℕ, List, [], ◌∷◌, Some, None}
use Rattle.units.specs.declared.code.Code.{Code}
use Rattle.units.specs.declared.code.Node.{Node}
use Rattle.units.specs.declared.code.Node.TheVariants.{Itl, Registry}
use Rattle.status.specs.Content.{Content}
use Rattle.status.specs.declared.id.TransactionId.{TransactionId}
use Rattle.status.specs.declared.status.Status.{Status}
use Rattle.status.specs.declared.status.Status.TheVariants.{Proposed, Checked, Accepted, Rejected, Terminated, Cancelled, Completed}
use Rattle.wire.specs.declared.message.Message.{Message}
use Rattle.wire.specs.declared.message.ProposalStatus.TheVariants as proposal
use Rattle.wire.specs.declared.notified.NotifiedStatus.{NotifiedStatus}
use Rattle.wire.specs.declared.notified.NotifiedStatus.TheVariants as notified
use Rattle.protocol.specs.Effects.{proposes, notifies, requests}
use Rattle.protocol.specs.History.{Transition}

-- a transaction that is known moves on, with the content that it had
abbrev pub moved : Transition → Status → ℕ → List Message → Transition
moved x new moment messages = record { id = x.id; new = new; content = x.content; moment = moment; messages = messages }

-- ---- at a registry

abbrev pub proposed : Code → TransactionId → Content → Transition
proposed c t k = record { id = t; new = Proposed; content = Some k; moment = 0; messages = proposes (Registry c) Itl t proposal.Proposed k ∷ [] }

-- its cancellation was asked for
abbrev pub asking : Code → Transition → Transition
asking c x = moved x Proposed 0 (requests (Registry c) Itl x.id ∷ [])

abbrev pub arrived_status : List ℕ → Status
arrived_status [] = Accepted
arrived_status (c ∷ cs) = Rejected

abbrev pub arrived_notified : List ℕ → NotifiedStatus
arrived_notified [] = notified.Accepted
arrived_notified (c ∷ cs) = notified.Rejected (c ∷ cs)

abbrev pub arrived : Code → TransactionId → Content → ℕ → List ℕ → Transition
arrived c t k moment found = record {
  id = t;
  new = arrived_status found;
  content = Some k;
  moment = moment;
  messages = notifies (Registry c) Itl t (arrived_notified found) ∷ [];
}

-- what the initiator sends when its transfer has come to this status
abbrev pub concluded_messages : Code → TransactionId → Status → List Message
concluded_messages c t Completed = notifies (Registry c) Itl t notified.Completed ∷ []
concluded_messages c t _ = []

-- cancelled before its proposal came
abbrev pub bare : TransactionId → ℕ → Transition
bare t moment = record { id = t; new = Cancelled; content = None; moment = moment; messages = [] }

-- ---- at the log

abbrev pub checked_status : List ℕ → Status
checked_status [] = Checked
checked_status (c ∷ cs) = Terminated

abbrev pub checked_message : TransactionId → Content → List ℕ → Message
checked_message t k [] = proposes Itl (Registry k.acquirer) t proposal.Checked k
checked_message t k (c ∷ cs) = notifies Itl (Registry t.code) t (notified.Terminated (c ∷ cs))

abbrev pub checked : TransactionId → Content → ℕ → List ℕ → Transition
checked t k moment found = record { id = t; new = checked_status found; content = Some k; moment = moment; messages = checked_message t k found ∷ [] }

-- to whom the log passes a notification on: Completed to the acquirer, all else to the initiator
abbrev pub told_to : TransactionId → Content → Status → Node
told_to t k Completed = Registry k.acquirer
told_to t k _ = Registry t.code

abbrev pub cancelled : ℕ → Transition → Content → Transition
cancelled moment x k = moved x Cancelled moment (notifies Itl (Registry x.id.code) x.id notified.Cancelled ∷ notifies Itl (Registry k.acquirer) x.id notified.Cancelled ∷ [])

-- cancelled at the log before its proposal came
abbrev pub forestalled : TransactionId → ℕ → Transition
forestalled t moment = record { id = t; new = Cancelled; content = None; moment = moment; messages = notifies Itl (Registry t.code) t notified.Cancelled ∷ [] }
