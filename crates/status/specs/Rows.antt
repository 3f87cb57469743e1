-- The three status tables: the result for an input about a transaction, by the status that the node has recorded.
use Rattle.status.specs.declared.status.Status.TheVariants.{Proposed, Checked, Accepted, Rejected, Terminated, Cancelled, Completed}
use Rattle.status.specs.declared.rows.Role.{Role}
use Rattle.status.specs.declared.rows.Role.TheVariants.{Initiator, Itl, Acquirer}
use Rattle.status.specs.declared.rows.RecordedStatus.{RecordedStatus}
use Rattle.status.specs.declared.rows.RecordedStatus.TheVariants.{Unknown, Bare, Stands}
use Rattle.status.specs.declared.rows.RowInput.{RowInput}
use Rattle.status.specs.declared.rows.RowInput.TheVariants.{Propose, ProposalWithoutFinding, ProposalWithFindings, EqualProposal, Notified, CleanUp, RequestOrder, RepeatedRequestOrder, Request}
use Rattle.status.specs.declared.rows.Row.{Row}
use Rattle.status.specs.declared.rows.Row.TheVariants.{Move, Repeat, Late, Refused}

-- table I, of the initiator
abbrev pub initiator_row : RecordedStatus → RowInput → Row
initiator_row Unknown Propose = Move Proposed
initiator_row (Stands Proposed) (Notified Accepted) = Move Completed
initiator_row (Stands Proposed) (Notified Rejected) = Move Rejected
initiator_row (Stands Proposed) (Notified Terminated) = Move Terminated
initiator_row (Stands Proposed) (Notified Cancelled) = Move Cancelled
initiator_row (Stands Proposed) RequestOrder = Move Proposed
initiator_row (Stands Completed) (Notified Accepted) = Repeat
initiator_row (Stands Rejected) (Notified Rejected) = Repeat
initiator_row (Stands Terminated) (Notified Terminated) = Repeat
initiator_row (Stands Cancelled) (Notified Cancelled) = Repeat
initiator_row (Stands Proposed) RepeatedRequestOrder = Repeat
initiator_row _ _ = Refused

-- table L, of the log
abbrev pub log_row : RecordedStatus → RowInput → Row
log_row Unknown ProposalWithoutFinding = Move Checked
log_row Unknown ProposalWithFindings = Move Terminated
log_row Unknown Request = Move Cancelled
log_row (Stands Checked) (Notified Accepted) = Move Accepted
log_row (Stands Checked) (Notified Rejected) = Move Rejected
log_row (Stands Checked) CleanUp = Move Cancelled
log_row (Stands Checked) Request = Move Cancelled
log_row (Stands Accepted) (Notified Completed) = Move Completed
log_row (Stands _) EqualProposal = Repeat
log_row (Stands Accepted) (Notified Accepted) = Repeat
log_row (Stands Completed) (Notified Accepted) = Repeat
log_row (Stands Rejected) (Notified Rejected) = Repeat
log_row (Stands Completed) (Notified Completed) = Repeat
log_row (Stands Cancelled) (Notified Accepted) = Late
log_row (Stands Cancelled) (Notified Rejected) = Late
log_row (Stands Accepted) Request = Late
log_row (Stands Rejected) Request = Late
log_row (Stands Terminated) Request = Late
log_row (Stands Completed) Request = Late
log_row (Stands Cancelled) Request = Late
log_row Bare Request = Late
log_row Bare ProposalWithoutFinding = Late
log_row Bare ProposalWithFindings = Late
log_row _ _ = Refused

-- table A, of the acquirer
abbrev pub acquirer_row : RecordedStatus → RowInput → Row
acquirer_row Unknown ProposalWithoutFinding = Move Accepted
acquirer_row Unknown ProposalWithFindings = Move Rejected
acquirer_row Unknown (Notified Cancelled) = Move Cancelled
acquirer_row (Stands Accepted) (Notified Completed) = Move Completed
acquirer_row (Stands Accepted) (Notified Cancelled) = Move Cancelled
acquirer_row (Stands _) EqualProposal = Repeat
acquirer_row (Stands Completed) (Notified Completed) = Repeat
acquirer_row (Stands Cancelled) (Notified Cancelled) = Repeat
acquirer_row Bare (Notified Cancelled) = Repeat
acquirer_row (Stands Rejected) (Notified Cancelled) = Late
acquirer_row Bare ProposalWithoutFinding = Late
acquirer_row Bare ProposalWithFindings = Late
acquirer_row _ _ = Refused

-- the table of a role
abbrev pub row_of : Role → RecordedStatus → RowInput → Row
row_of Initiator old input = initiator_row old input
row_of Itl old input = log_row old input
row_of Acquirer old input = acquirer_row old input
