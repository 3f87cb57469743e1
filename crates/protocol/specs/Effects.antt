-- The messages of a transaction's move: the effects of the three tables, by the input's column. The codes are those of
-- the findings, or of the notification that the log passes on.
use Rattle.std.specs.Prelude.{ℕ, List, [], ◌∷◌, Option}
use Rattle.std.specs.Option.{option_map_or}
use Rattle.units.specs.declared.code.Code.{Code}
use Rattle.units.specs.declared.code.Node.{Node}
use Rattle.units.specs.declared.code.Node.TheVariants.{Itl, Registry}
use Rattle.status.specs.Content.{Content}
use Rattle.status.specs.declared.id.TransactionId.{TransactionId}
use Rattle.status.specs.declared.rows.RowInput.{RowInput}
use Rattle.status.specs.declared.rows.RowInput.TheVariants.{Propose, RequestOrder, ProposalWithoutFinding, ProposalWithFindings, Notified, CleanUp, Request}
use Rattle.status.specs.declared.status.Status.TheVariants.{Accepted, Rejected, Completed}
use Rattle.wire.specs.declared.message.Body.TheVariants as body
use Rattle.wire.specs.declared.message.Message.{Message}
use Rattle.wire.specs.declared.message.ProposalStatus.{ProposalStatus}
use Rattle.wire.specs.declared.message.ProposalStatus.TheVariants as proposal
use Rattle.wire.specs.declared.notified.NotifiedStatus.{NotifiedStatus}
use Rattle.wire.specs.declared.notified.NotifiedStatus.TheVariants as notified

abbrev pub proposes : Node → Node → TransactionId → ProposalStatus → Content → Message
proposes from to t status k = record { from = from; to = to; id = t; body = body.Proposal (record { status = status; content = k }) }

abbrev pub notifies : Node → Node → TransactionId → NotifiedStatus → Message
notifies from to t said = record { from = from; to = to; id = t; body = body.Notification said }

abbrev pub requests : Node → Node → TransactionId → Message
requests from to t = record { from = from; to = to; id = t; body = body.Request }

-- to the acquirer; a record without content names none
abbrev pub to_acquirer : Option Content → (Node → Content → Message) → List Message
to_acquirer k message = option_map_or (λ c. message (Registry c.acquirer) c ∷ []) k []

-- table I
abbrev pub initiator_sends : Code → TransactionId → Option Content → RowInput → List Message
initiator_sends c t k Propose = option_map_or (λ content. proposes (Registry c) Itl t proposal.Proposed content ∷ []) k []
initiator_sends c t k RequestOrder = requests (Registry c) Itl t ∷ []
initiator_sends c t k (Notified Accepted) = notifies (Registry c) Itl t notified.Completed ∷ []
initiator_sends c t k _ = []

-- table L
abbrev pub log_sends : TransactionId → Option Content → List ℕ → RowInput → List Message
log_sends t k codes ProposalWithoutFinding = to_acquirer k (λ to content. proposes Itl to t proposal.Checked content)
log_sends t k codes ProposalWithFindings = notifies Itl (Registry t.code) t (notified.Terminated codes) ∷ []
log_sends t k codes (Notified Accepted) = notifies Itl (Registry t.code) t notified.Accepted ∷ []
log_sends t k codes (Notified Rejected) = notifies Itl (Registry t.code) t (notified.Rejected codes) ∷ []
log_sends t k codes (Notified Completed) = to_acquirer k (λ to content. notifies Itl to t notified.Completed)
log_sends t k codes CleanUp = notifies Itl (Registry t.code) t notified.Cancelled ∷ to_acquirer k (λ to content. notifies Itl to t notified.Cancelled)
log_sends t k codes Request = notifies Itl (Registry t.code) t notified.Cancelled ∷ to_acquirer k (λ to content. notifies Itl to t notified.Cancelled)
log_sends t k codes _ = []

-- table A
abbrev pub acquirer_sends : Code → TransactionId → List ℕ → RowInput → List Message
acquirer_sends c t codes ProposalWithoutFinding = notifies (Registry c) Itl t notified.Accepted ∷ []
acquirer_sends c t codes ProposalWithFindings = notifies (Registry c) Itl t (notified.Rejected codes) ∷ []
acquirer_sends c t codes _ = []
