-- The three status tables as a whole: the effect of each input at every status that a node can have recorded for a
-- transaction.
use Rattle.std.proofs.Common.{◌≡◌, List, [], ◌∷◌, map, refl}
use Rattle.status.specs.Rows.{row_of}
use Rattle.status.specs.declared.rows.RecordedStatus.{RecordedStatus}
use Rattle.status.specs.declared.rows.RecordedStatus.TheVariants.{Unknown, Bare, Stands}
use Rattle.status.specs.declared.rows.Role.{Role}
use Rattle.status.specs.declared.rows.Role.TheVariants.{Initiator, Itl, Acquirer}
use Rattle.status.specs.declared.rows.Row.{Row}
use Rattle.status.specs.declared.rows.Row.TheVariants.{Move, Repeat, Late, Refused}
use Rattle.status.specs.declared.rows.RowInput.{RowInput}
use Rattle.status.specs.declared.rows.RowInput.TheVariants.{Propose, ProposalWithoutFinding, ProposalWithFindings, EqualProposal, Notified, CleanUp, RequestOrder, RepeatedRequestOrder, Request}
use Rattle.status.specs.declared.status.Status.TheVariants.{Proposed, Checked, Accepted, Rejected, Terminated, Cancelled, Completed}

abbrev no : Row
no = Refused

-- ---- the columns: the proposal, the notifications, orders and requests

abbrev proposals : List RowInput
proposals = ProposalWithoutFinding ∷ ProposalWithFindings ∷ EqualProposal ∷ []

-- no proposal equals the content of a record without content
abbrev new_proposals : List RowInput
new_proposals = ProposalWithoutFinding ∷ ProposalWithFindings ∷ []

abbrev notified : List RowInput
notified = Notified Proposed ∷ Notified Checked ∷ Notified Accepted ∷ Notified Rejected ∷ Notified Terminated ∷ Notified Cancelled ∷ Notified Completed ∷ []

abbrev others : List RowInput
others = Propose ∷ CleanUp ∷ RequestOrder ∷ RepeatedRequestOrder ∷ Request ∷ []

abbrev rows : List RowInput → Role → RecordedStatus → List Row
rows inputs role old = map (row_of role old) inputs

abbrev three : List Row
three = no ∷ no ∷ no ∷ []

abbrev five : List Row
five = no ∷ no ∷ no ∷ no ∷ no ∷ []

abbrev seven : List Row
seven = no ∷ no ∷ no ∷ no ∷ no ∷ no ∷ no ∷ []

-- ---- the initiator's

pub initiator_at_none : (rows proposals Initiator Unknown ≡ three) × (rows notified Initiator Unknown ≡ seven) × (rows others Initiator Unknown ≡ Move Proposed ∷ no ∷ no ∷ no ∷ no ∷ [])
initiator_at_none = (refl, refl, refl)

pub initiator_without_content : (rows new_proposals Initiator Bare ≡ no ∷ no ∷ []) × (rows notified Initiator Bare ≡ seven) × (rows others Initiator Bare ≡ five)
initiator_without_content = (refl, refl, refl)

pub initiator_at_proposed : (rows proposals Initiator (Stands Proposed) ≡ three)
    × (rows notified Initiator (Stands Proposed) ≡ no ∷ no ∷ Move Completed ∷ Move Rejected ∷ Move Terminated ∷ Move Cancelled ∷ no ∷ [])
    × (rows others Initiator (Stands Proposed) ≡ no ∷ no ∷ Move Proposed ∷ Repeat ∷ no ∷ [])
initiator_at_proposed = (refl, refl, refl)

pub initiator_at_checked : (rows proposals Initiator (Stands Checked) ≡ three) × (rows notified Initiator (Stands Checked) ≡ seven) × (rows others Initiator (Stands Checked) ≡ five)
initiator_at_checked = (refl, refl, refl)

pub initiator_at_accepted : (rows proposals Initiator (Stands Accepted) ≡ three) × (rows notified Initiator (Stands Accepted) ≡ seven) × (rows others Initiator (Stands Accepted) ≡ five)
initiator_at_accepted = (refl, refl, refl)

pub initiator_at_rejected : (rows proposals Initiator (Stands Rejected) ≡ three)
    × (rows notified Initiator (Stands Rejected) ≡ no ∷ no ∷ no ∷ Repeat ∷ no ∷ no ∷ no ∷ [])
    × (rows others Initiator (Stands Rejected) ≡ five)
initiator_at_rejected = (refl, refl, refl)

pub initiator_at_terminated : (rows proposals Initiator (Stands Terminated) ≡ three)
    × (rows notified Initiator (Stands Terminated) ≡ no ∷ no ∷ no ∷ no ∷ Repeat ∷ no ∷ no ∷ [])
    × (rows others Initiator (Stands Terminated) ≡ five)
initiator_at_terminated = (refl, refl, refl)

pub initiator_at_cancelled : (rows proposals Initiator (Stands Cancelled) ≡ three)
    × (rows notified Initiator (Stands Cancelled) ≡ no ∷ no ∷ no ∷ no ∷ no ∷ Repeat ∷ no ∷ [])
    × (rows others Initiator (Stands Cancelled) ≡ five)
initiator_at_cancelled = (refl, refl, refl)

pub initiator_at_completed : (rows proposals Initiator (Stands Completed) ≡ three)
    × (rows notified Initiator (Stands Completed) ≡ no ∷ no ∷ Repeat ∷ no ∷ no ∷ no ∷ no ∷ [])
    × (rows others Initiator (Stands Completed) ≡ five)
initiator_at_completed = (refl, refl, refl)

-- ---- the log's

pub log_at_none : (rows proposals Itl Unknown ≡ Move Checked ∷ Move Terminated ∷ no ∷ []) × (rows notified Itl Unknown ≡ seven) × (rows others Itl Unknown ≡ no ∷ no ∷ no ∷ no ∷ Move Cancelled ∷ [])
log_at_none = (refl, refl, refl)

pub log_without_content : (rows new_proposals Itl Bare ≡ Late ∷ Late ∷ []) × (rows notified Itl Bare ≡ seven) × (rows others Itl Bare ≡ no ∷ no ∷ no ∷ no ∷ Late ∷ [])
log_without_content = (refl, refl, refl)

pub log_at_checked : (rows proposals Itl (Stands Checked) ≡ no ∷ no ∷ Repeat ∷ [])
    × (rows notified Itl (Stands Checked) ≡ no ∷ no ∷ Move Accepted ∷ Move Rejected ∷ no ∷ no ∷ no ∷ [])
    × (rows others Itl (Stands Checked) ≡ no ∷ Move Cancelled ∷ no ∷ no ∷ Move Cancelled ∷ [])
log_at_checked = (refl, refl, refl)

pub log_at_accepted : (rows proposals Itl (Stands Accepted) ≡ no ∷ no ∷ Repeat ∷ [])
    × (rows notified Itl (Stands Accepted) ≡ no ∷ no ∷ Repeat ∷ no ∷ no ∷ no ∷ Move Completed ∷ [])
    × (rows others Itl (Stands Accepted) ≡ no ∷ no ∷ no ∷ no ∷ Late ∷ [])
log_at_accepted = (refl, refl, refl)

pub log_at_rejected : (rows proposals Itl (Stands Rejected) ≡ no ∷ no ∷ Repeat ∷ [])
    × (rows notified Itl (Stands Rejected) ≡ no ∷ no ∷ no ∷ Repeat ∷ no ∷ no ∷ no ∷ [])
    × (rows others Itl (Stands Rejected) ≡ no ∷ no ∷ no ∷ no ∷ Late ∷ [])
log_at_rejected = (refl, refl, refl)

pub log_at_terminated : (rows proposals Itl (Stands Terminated) ≡ no ∷ no ∷ Repeat ∷ [])
    × (rows notified Itl (Stands Terminated) ≡ seven)
    × (rows others Itl (Stands Terminated) ≡ no ∷ no ∷ no ∷ no ∷ Late ∷ [])
log_at_terminated = (refl, refl, refl)

pub log_at_cancelled : (rows proposals Itl (Stands Cancelled) ≡ no ∷ no ∷ Repeat ∷ [])
    × (rows notified Itl (Stands Cancelled) ≡ no ∷ no ∷ Late ∷ Late ∷ no ∷ no ∷ no ∷ [])
    × (rows others Itl (Stands Cancelled) ≡ no ∷ no ∷ no ∷ no ∷ Late ∷ [])
log_at_cancelled = (refl, refl, refl)

pub log_at_completed : (rows proposals Itl (Stands Completed) ≡ no ∷ no ∷ Repeat ∷ [])
    × (rows notified Itl (Stands Completed) ≡ no ∷ no ∷ Repeat ∷ no ∷ no ∷ no ∷ Repeat ∷ [])
    × (rows others Itl (Stands Completed) ≡ no ∷ no ∷ no ∷ no ∷ Late ∷ [])
log_at_completed = (refl, refl, refl)

-- ---- the acquirer's

pub acquirer_at_none : (rows proposals Acquirer Unknown ≡ Move Accepted ∷ Move Rejected ∷ no ∷ [])
    × (rows notified Acquirer Unknown ≡ no ∷ no ∷ no ∷ no ∷ no ∷ Move Cancelled ∷ no ∷ [])
    × (rows others Acquirer Unknown ≡ five)
acquirer_at_none = (refl, refl, refl)

pub acquirer_without_content : (rows new_proposals Acquirer Bare ≡ Late ∷ Late ∷ [])
    × (rows notified Acquirer Bare ≡ no ∷ no ∷ no ∷ no ∷ no ∷ Repeat ∷ no ∷ [])
    × (rows others Acquirer Bare ≡ five)
acquirer_without_content = (refl, refl, refl)

pub acquirer_at_accepted : (rows proposals Acquirer (Stands Accepted) ≡ no ∷ no ∷ Repeat ∷ [])
    × (rows notified Acquirer (Stands Accepted) ≡ no ∷ no ∷ no ∷ no ∷ no ∷ Move Cancelled ∷ Move Completed ∷ [])
    × (rows others Acquirer (Stands Accepted) ≡ five)
acquirer_at_accepted = (refl, refl, refl)

pub acquirer_at_rejected : (rows proposals Acquirer (Stands Rejected) ≡ no ∷ no ∷ Repeat ∷ [])
    × (rows notified Acquirer (Stands Rejected) ≡ no ∷ no ∷ no ∷ no ∷ no ∷ Late ∷ no ∷ [])
    × (rows others Acquirer (Stands Rejected) ≡ five)
acquirer_at_rejected = (refl, refl, refl)

pub acquirer_at_cancelled : (rows proposals Acquirer (Stands Cancelled) ≡ no ∷ no ∷ Repeat ∷ [])
    × (rows notified Acquirer (Stands Cancelled) ≡ no ∷ no ∷ no ∷ no ∷ no ∷ Repeat ∷ no ∷ [])
    × (rows others Acquirer (Stands Cancelled) ≡ five)
acquirer_at_cancelled = (refl, refl, refl)

pub acquirer_at_completed : (rows proposals Acquirer (Stands Completed) ≡ no ∷ no ∷ Repeat ∷ [])
    × (rows notified Acquirer (Stands Completed) ≡ no ∷ no ∷ no ∷ no ∷ no ∷ no ∷ Repeat ∷ [])
    × (rows others Acquirer (Stands Completed) ≡ five)
acquirer_at_completed = (refl, refl, refl)
