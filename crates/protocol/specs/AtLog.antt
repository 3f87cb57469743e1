-- The verdict of the log on an input after a journal.
use Rattle.std.specs.Prelude.{ℕ, ◌+◌, not, cond, nat_le, Bool, true, false, List, [], ◌∷◌, filter, flat_map, Option, Some}
use Rattle.std.specs.Option.{option_map_or}
use Rattle.std.specs.Ordering.{is_lt}
use Rattle.units.specs.Code.{same_node}
use Rattle.units.specs.Limits.{clean_up_age}
use Rattle.units.specs.RefusalCodes.{other_addressee, sender_not_allowed, wrong_party, other_content, no_row, unknown_transaction, unknown_registry}
use Rattle.units.specs.declared.code.Code.{Code}
use Rattle.units.specs.declared.code.Node.{Node}
use Rattle.units.specs.declared.code.Node.TheVariants.{Itl, Registry}
use Rattle.status.specs.Content.{Content}
use Rattle.status.specs.Id.{same_id, id_cmp}
use Rattle.status.specs.Rows.{log_row}
use Rattle.status.specs.declared.id.TransactionId.{TransactionId}
use Rattle.status.specs.declared.rows.RecordedStatus.{RecordedStatus}
use Rattle.status.specs.declared.rows.RowInput.{RowInput}
use Rattle.status.specs.declared.rows.RowInput.TheVariants as column
use Rattle.status.specs.declared.status.Status.{Status}
use Rattle.status.specs.declared.status.Status.TheVariants.{Accepted, Rejected, Completed}
use Rattle.wire.specs.NotifiedStatuses.{notified_status, notified_codes}
use Rattle.wire.specs.declared.input.Input.{Input}
use Rattle.wire.specs.declared.input.Input.TheVariants.{Propose, Request, OpenAccount, CloseAccount, Ack, CleanUp, Eligible, Received}
use Rattle.wire.specs.declared.message.Body.{Body}
use Rattle.wire.specs.declared.message.Body.TheVariants as body
use Rattle.wire.specs.declared.message.Message.{Message}
use Rattle.wire.specs.declared.message.ProposalStatus.{ProposalStatus}
use Rattle.wire.specs.declared.message.ProposalStatus.TheVariants as proposal
use Rattle.scheme.specs.declared.registries.Scheme.{Scheme}
use Rattle.protocol.specs.Registries.{has_member}
use Rattle.protocol.specs.History.{Transition, Entry, transitions_of, newest, is_known, book_owner, busy, is_eligible}
use Rattle.protocol.specs.Checks.{Causes, Ledger, log_findings}
use Rattle.protocol.specs.Effects.{log_sends}
use Rattle.protocol.specs.Deciding.{Verdict, IsRepeat, IsRefused, refuse, recorded_if_room, known, content_in, column_of_proposal, moved, moved_by, by_row, has_other, acknowledge}

-- the facts that the findings need, read off a history
abbrev pub ledger : Scheme → List Entry → Ledger
ledger scheme es = record {
  owner = book_owner scheme (transitions_of es);
  is_busy = busy (transitions_of es);
  is_eligible = is_eligible scheme es;
}

-- ---- messages

abbrev pub is_proposed : ProposalStatus → Bool
is_proposed proposal.Proposed = true
is_proposed proposal.Checked = false

abbrev pub is_no_registry : Scheme → Node → Bool
is_no_registry scheme Itl = true
is_no_registry scheme (Registry c) = not (has_member scheme c)

-- a record without content names no acquirer
abbrev pub is_not_acquirer : Node → Option Content → Bool
is_not_acquirer from k = option_map_or (λ content. not (same_node from (Registry content.acquirer))) k true

-- Accepted and Rejected come from the acquirer, Completed from the initiator
abbrev pub is_from_another : Node → TransactionId → Option Content → Status → Bool
is_from_another from t k Accepted = is_not_acquirer from k
is_from_another from t k Rejected = is_not_acquirer from k
is_from_another from t k Completed = not (same_node from (Registry t.code))
is_from_another from t k _ = false

-- refusals by the body, about that transaction, from that sender
abbrev pub log_body_refusals : List Entry → Node → TransactionId → Body → Causes
log_body_refusals es from t (body.Proposal p) =
    (not (same_node from (Registry t.code)), wrong_party)
    ∷ (has_other (newest (transitions_of es) t) p.content, other_content)
    ∷ (not (is_proposed p.status), no_row)
    ∷ []
log_body_refusals es from t (body.Notification n) =
    (not (is_known (transitions_of es) t), unknown_transaction)
    ∷ (is_from_another from t (content_in (newest (transitions_of es) t)) (notified_status n), wrong_party)
    ∷ []
log_body_refusals es from t body.Request = (not (same_node from (Registry t.code)), wrong_party) ∷ []

abbrev pub log_refusals : Scheme → List Entry → Message → Causes
log_refusals scheme es m =
    (not (same_node m.to Itl), other_addressee)
    ∷ (is_no_registry scheme m.from, sender_not_allowed)
    ∷ log_body_refusals es m.from m.id m.body

-- by the log's table: the content is the one that is recorded from then on, and the codes are those of the notification
-- or of the findings
abbrev pub at_log : Scheme → List Entry → TransactionId → Option Content → List ℕ → ℕ → RecordedStatus → RowInput → Verdict
at_log scheme es t k codes moment old input = by_row scheme es (moved t k moment (log_sends t k codes input)) (log_row old input)

abbrev pub checked : Scheme → List Entry → TransactionId → Option Transition → Content → ℕ → List ℕ → Verdict
checked scheme es t last k moment found = at_log scheme es t (Some k) found moment (known last) (column_of_proposal (content_in last) found)

abbrev pub told : Scheme → List Entry → TransactionId → Option Transition → List ℕ → ℕ → RowInput → Verdict
told scheme es t last codes moment input = at_log scheme es t (content_in last) codes moment (known last) input

abbrev pub log_answer : Scheme → List Entry → ℕ → TransactionId → Body → Verdict
log_answer scheme es moment t (body.Proposal p) = checked scheme es t (newest (transitions_of es) t) p.content moment (log_findings scheme (ledger scheme es) t.code p.content)
log_answer scheme es moment t (body.Notification n) = told scheme es t (newest (transitions_of es) t) (notified_codes n) moment (column.Notified (notified_status n))
log_answer scheme es moment t body.Request = told scheme es t (newest (transitions_of es) t) [] moment column.Request

abbrev pub log_message : Scheme → List Entry → ℕ → Message → Verdict
log_message scheme es moment m = refuse (log_refusals scheme es m) (log_answer scheme es moment m.id m.body)

-- ---- clean-up: each transaction with a newest transition that is a day old takes its row, in ascending order of code
-- and number

-- the newest transition of each transaction
abbrev pub newest_of_each : List Transition → List Transition
newest_of_each [] = []
newest_of_each (x ∷ xs) = x ∷ filter (λ y. not (same_id y.id x.id)) (newest_of_each xs)

-- old enough at that moment to be cleaned up
abbrev pub is_old : ℕ → Transition → Bool
is_old moment x = nat_le (x.moment + clean_up_age) moment

abbrev pub put_transition : Transition → List Transition → List Transition
put_transition x [] = x ∷ []
put_transition x (y ∷ ys) = cond (is_lt (id_cmp x.id y.id)) (x ∷ y ∷ ys) (y ∷ put_transition x ys)

abbrev pub by_id : List Transition → List Transition
by_id [] = []
by_id (x ∷ xs) = put_transition x (by_id xs)

abbrev pub cleaned : ℕ → Transition → List Transition
cleaned moment x = moved_by (moved x.id x.content moment (log_sends x.id x.content [] column.CleanUp)) (log_row (known (Some x)) column.CleanUp)

abbrev pub expired : List Transition → ℕ → List Transition
expired xs moment = flat_map (cleaned moment) (by_id (filter (is_old moment) (newest_of_each xs)))

-- a repeat where nothing has expired
abbrev pub clean_up : Scheme → List Entry → List Transition → Verdict
clean_up scheme es [] = IsRepeat
clean_up scheme es (x ∷ xs) = recorded_if_room scheme es (x ∷ xs)

-- ---- eligibility

abbrev pub same_bool : Bool → Bool → Bool
same_bool true b = b
same_bool false b = not b

abbrev pub eligible_refusals : Scheme → Code → Causes
eligible_refusals scheme c = (not (has_member scheme c), unknown_registry) ∷ []

-- ---- the verdict

-- inputs of a registry are refused with `no_row`
abbrev pub log_verdict : Scheme → List Entry → Input → Verdict
log_verdict scheme es (CleanUp t) = clean_up scheme es (expired (transitions_of es) t.seconds)
log_verdict scheme es (Eligible c may) = refuse (eligible_refusals scheme c) (cond (same_bool (is_eligible scheme es c) may) IsRepeat (recorded_if_room scheme es []))
log_verdict scheme es (Ack n) = acknowledge scheme es n.value
log_verdict scheme es (Received m t) = log_message scheme es t.seconds m
log_verdict scheme es (Propose o) = IsRefused no_row
log_verdict scheme es (Request t) = IsRefused no_row
log_verdict scheme es (OpenAccount n) = IsRefused no_row
log_verdict scheme es (CloseAccount n) = IsRefused no_row
