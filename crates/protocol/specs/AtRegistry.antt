-- The verdict of a registry on an input after a journal.
use Rattle.std.specs.Prelude.{ℕ, ◌+◌, ◌==◌, ◌&&◌, ◌||◌, not, cond, Bool, true, false, List, [], ◌∷◌, ◌++◌, flat_map, Option, Some, None}
use Rattle.std.specs.List.{list_any}
use Rattle.std.specs.Option.{option_map_or}
use Rattle.units.specs.Code.{same_code, same_node}
use Rattle.units.specs.RefusalCodes.{other_addressee, sender_not_allowed, wrong_party, other_content, no_row, unknown_transaction}
use Rattle.units.specs.RefusalCodes.{transactions_used_up, unknown_account, already_so, holds_units, transfer_accepted, not_proposed_here, no_longer_proposed}
use Rattle.units.specs.declared.code.Code.{Code}
use Rattle.units.specs.declared.code.Node.TheVariants.{Itl, Registry}
use Rattle.units.specs.Unit.{same_kind}
use Rattle.status.specs.Content.{Content, raws}
use Rattle.status.specs.Id.{id_at}
use Rattle.status.specs.Order.{Order}
use Rattle.status.specs.Rows.{initiator_row, acquirer_row}
use Rattle.status.specs.Status.{same_status}
use Rattle.status.specs.declared.id.TransactionId.{TransactionId}
use Rattle.status.specs.declared.rows.Row.{Row}
use Rattle.status.specs.declared.rows.Row.TheVariants.{Move, Refused}
use Rattle.status.specs.declared.rows.RowInput.{RowInput}
use Rattle.status.specs.declared.rows.RowInput.TheVariants as column
use Rattle.status.specs.declared.status.Status.TheVariants.{Proposed, Accepted, Cancelled, Completed}
use Rattle.wire.specs.NotifiedStatuses.{notified_status}
use Rattle.wire.specs.declared.input.Input.{Input}
use Rattle.wire.specs.declared.input.Input.TheVariants.{Propose, Request, OpenAccount, CloseAccount, Ack, CleanUp, Eligible, Received}
use Rattle.wire.specs.declared.message.Body.{Body}
use Rattle.wire.specs.declared.message.Body.TheVariants as body
use Rattle.wire.specs.declared.message.Message.{Message}
use Rattle.wire.specs.declared.message.ProposalStatus.{ProposalStatus}
use Rattle.wire.specs.declared.message.ProposalStatus.TheVariants as proposal
use Rattle.scheme.specs.Order.{all_blocks}
use Rattle.scheme.specs.declared.registries.Scheme.{Scheme}
use Rattle.units.specs.Canonical.{canonical}
use Rattle.protocol.specs.Pieces.{Piece, pieces, repeats}
use Rattle.protocol.specs.Registries.{has_account}
use Rattle.protocol.specs.History.{Transition, Entry, Position, transitions_of, newest, stands_at, is_known, proposals, is_requested, holds, reserved, position, is_closed}
use Rattle.protocol.specs.Checks.{Causes, Holding, propose_refusals, acquirer_findings}
use Rattle.protocol.specs.Effects.{initiator_sends, acquirer_sends}
use Rattle.protocol.specs.Deciding.{Verdict, IsRefused, refuse, recorded_if_room, known, content_in, column_of_proposal, moved, by_row, has_other, acknowledge}

-- ---- the facts that the checks need, read off a history

abbrev pub is_position : Option Position → ℕ → Piece → Bool
is_position q account p = option_map_or (λ at. (at.account == account) && same_kind at.kind p.kind) q false

abbrev pub holding : Scheme → Code → List Entry → Holding
holding scheme c es = record {
  is_closed = is_closed es;
  has = λ account p. holds scheme c (transitions_of es) p.unit && is_position (position scheme c (transitions_of es) p.unit) account p;
  is_held = holds scheme c (transitions_of es);
  is_reserved = reserved c (transitions_of es);
}

-- ---- an order to transfer units

abbrev pub content_of : Order → Content
content_of o = record { account = o.account; acquirer = o.acquirer; to_account = o.to_account; units = canonical o.units }

-- under the registry's next number, where one is left
abbrev pub new_transfer_verdict : Scheme → Code → List Entry → Content → Option TransactionId → Verdict
new_transfer_verdict scheme c es k None = IsRefused transactions_used_up
new_transfer_verdict scheme c es k (Some t) = by_row scheme es (moved t (Some k) 0 (initiator_sends c t (Some k) column.Propose)) (initiator_row (known (newest (transitions_of es) t)) column.Propose)

abbrev pub propose : Scheme → Code → List Entry → Order → Verdict
propose scheme c es o = refuse (propose_refusals scheme c (holding scheme c es) o) (new_transfer_verdict scheme c es (content_of o) (id_at c (proposals es + 1)))

-- ---- a proposal that the log passes on

abbrev pub arrival : Scheme → Code → List Entry → TransactionId → Option Transition → Content → ℕ → List ℕ → Verdict
arrival scheme c es t last k moment found =
    by_row scheme es (moved t (Some k) moment (acquirer_sends c t found (column_of_proposal (content_in last) found))) (acquirer_row (known last) (column_of_proposal (content_in last) found))

-- ---- an order or a message about a transaction, by the table of the registry's role in it

abbrev pub holds_some : Scheme → Code → List Transition → Option Content → Bool
holds_some scheme c xs k = option_map_or (λ content. list_any (λ p. holds scheme c xs p.unit) (pieces content.units)) k false

-- the acquirer doesn't take in a unit that it holds
abbrev pub unless_held : Bool → Row → Row
unless_held true (Move Completed) = Refused
unless_held held row = row

abbrev pub in_role : Scheme → Code → List Entry → TransactionId → Option Transition → ℕ → RowInput → Verdict
in_role scheme c es t last moment input =
    cond (same_code t.code c)
    (by_row scheme es (moved t (content_in last) moment (initiator_sends c t (content_in last) input)) (initiator_row (known last) input))
    (by_row scheme es (moved t (content_in last) moment (acquirer_sends c t [] input)) (unless_held (holds_some scheme c (transitions_of es) (content_in last)) (acquirer_row (known last) input)))

-- ---- an order to ask for cancellation

abbrev pub request_refusals : Code → List Entry → TransactionId → Causes
request_refusals c es t =
    (not (same_code t.code c && is_known (transitions_of es) t), not_proposed_here)
    ∷ (not (stands_at (transitions_of es) t Proposed), no_longer_proposed)
    ∷ []

-- the first one for its transaction, or another
abbrev pub request_column : List Entry → TransactionId → RowInput
request_column es t = cond (is_requested es t) column.RepeatedRequestOrder column.RequestOrder

abbrev pub request : Scheme → Code → List Entry → TransactionId → Verdict
request scheme c es t = refuse (request_refusals c es t) (in_role scheme c es t (newest (transitions_of es) t) 0 (request_column es t))

-- ---- messages at a registry

abbrev pub is_checked : ProposalStatus → Bool
is_checked proposal.Proposed = false
is_checked proposal.Checked = true

-- refusals by the body, about that transaction
abbrev pub registry_body_refusals : Code → List Entry → TransactionId → Body → Causes
registry_body_refusals c es t (body.Proposal p) =
    (not (same_code p.content.acquirer c) || (same_code t.code c || repeats (pieces p.content.units)), wrong_party)
    ∷ (has_other (newest (transitions_of es) t) p.content, other_content)
    ∷ (not (is_checked p.status), no_row)
    ∷ []
registry_body_refusals c es t (body.Notification n) =
    (not (is_known (transitions_of es) t) && not (same_status (notified_status n) Cancelled && not (same_code t.code c)), unknown_transaction) ∷ []
registry_body_refusals c es t body.Request = []

abbrev pub registry_refusals : Code → List Entry → Message → Causes
registry_refusals c es m =
    (not (same_node m.to (Registry c)), other_addressee) ∷ (not (same_node m.from Itl), sender_not_allowed) ∷ registry_body_refusals c es m.id m.body

abbrev pub registry_answer : Scheme → Code → List Entry → ℕ → TransactionId → Body → Verdict
registry_answer scheme c es moment t (body.Proposal p) = arrival scheme c es t (newest (transitions_of es) t) p.content moment (acquirer_findings scheme c (holding scheme c es) p.content)
registry_answer scheme c es moment t (body.Notification n) = in_role scheme c es t (newest (transitions_of es) t) moment (column.Notified (notified_status n))
registry_answer scheme c es moment t body.Request = in_role scheme c es t (newest (transitions_of es) t) moment column.Request

abbrev pub registry_message : Scheme → Code → List Entry → ℕ → Message → Verdict
registry_message scheme c es moment m = refuse (registry_refusals c es m) (registry_answer scheme c es moment m.id m.body)

-- ---- account orders

abbrev pub open_refusals : Scheme → Code → List Entry → ℕ → Causes
open_refusals scheme c es account = (not (has_account scheme c account), unknown_account) ∷ (not (is_closed es account), already_so) ∷ []

-- all units that were ever allotted or in a transfer
abbrev pub seen : Scheme → List Transition → List Piece
seen scheme xs = pieces (raws (all_blocks scheme.members)) ++ flat_map (λ x. option_map_or (λ k. pieces k.units) x.content []) xs

-- the account holds units
abbrev pub is_used : Scheme → Code → List Transition → ℕ → Bool
is_used scheme c xs account = list_any (λ p. holds scheme c xs p.unit && option_map_or (λ q. q.account == account) (position scheme c xs p.unit) false) (seen scheme xs)

-- a transfer into the account has the status Accepted
abbrev pub is_awaited : Code → List Transition → ℕ → Bool
is_awaited c xs account = list_any (λ x. not (same_code x.id.code c) && (stands_at xs x.id Accepted && option_map_or (λ k. k.to_account == account) x.content false)) xs

abbrev pub close_refusals : Scheme → Code → List Entry → ℕ → Causes
close_refusals scheme c es account =
    (not (has_account scheme c account), unknown_account)
    ∷ (is_closed es account, already_so)
    ∷ (is_used scheme c (transitions_of es) account, holds_units)
    ∷ (is_awaited c (transitions_of es) account, transfer_accepted)
    ∷ []

-- ---- the verdict

-- inputs of the log are refused with `no_row`
abbrev pub registry_verdict : Scheme → Code → List Entry → Input → Verdict
registry_verdict scheme c es (Propose o) = propose scheme c es o
registry_verdict scheme c es (Request t) = request scheme c es t
registry_verdict scheme c es (OpenAccount n) = refuse (open_refusals scheme c es n.value) (recorded_if_room scheme es [])
registry_verdict scheme c es (CloseAccount n) = refuse (close_refusals scheme c es n.value) (recorded_if_room scheme es [])
registry_verdict scheme c es (Ack n) = acknowledge scheme es n.value
registry_verdict scheme c es (Received m t) = registry_message scheme c es t.seconds m
registry_verdict scheme c es (CleanUp t) = IsRefused no_row
registry_verdict scheme c es (Eligible d may) = IsRefused no_row
