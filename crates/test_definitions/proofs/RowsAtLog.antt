-- Each row of the log's table in a journal: which status changes and which messages go out, what is a repeat, late or
-- refused, and which inputs still have their answer where the journal is full.
use Rattle.std.proofs.Common.{◌≡◌, List, [], ◌∷◌, ◌++◌, Some, None, refl}
use Rattle.units.specs.declared.code.Node.TheVariants.{Itl}
use Rattle.status.specs.declared.status.Status.TheVariants.{Checked, Accepted, Rejected, Terminated, Cancelled, Completed}
use Rattle.wire.specs.declared.input.Input.{Input}
use Rattle.wire.specs.declared.input.Input.TheVariants.{CleanUp}
use Rattle.wire.specs.declared.message.Message.{Message}
use Rattle.wire.specs.declared.message.ProposalStatus.TheVariants as proposal
use Rattle.wire.specs.declared.notified.NotifiedStatus.TheVariants as notified
use Rattle.protocol.specs.Verdict.{verdict}
use Rattle.protocol.proofs.WorkedScheme.{nz_node, jp_node, block, all_units, nz1, scheme_s, scheme_of_one, a_day_after, notification}
use Rattle.test_definitions.proofs.ShortNames.{scheme_of_two, to_jp, proposes, asks, comes, Answer, recorded, again, late, refused, answers, moves}

abbrev proposed : Message
proposed = proposes nz_node Itl nz1 proposal.Proposed (to_jp all_units)

-- the units include one that nobody was allotted
abbrev with_finding : Message
with_finding = proposes nz_node Itl nz1 proposal.Proposed (to_jp (block 100 101 ∷ []))

abbrev is_accepted : Message
is_accepted = notification jp_node Itl nz1 notified.Accepted

abbrev is_rejected : Message
is_rejected = notification jp_node Itl nz1 (notified.Rejected (301 ∷ 304 ∷ []))

abbrev pub is_completed : Message
is_completed = notification nz_node Itl nz1 notified.Completed

abbrev pub request : Message
request = asks nz_node Itl nz1

-- ---- journals that bring the transaction to each status

abbrev checked : List Input
checked = comes proposed ∷ []

abbrev pub accepted : List Input
accepted = checked ++ comes is_accepted ∷ []

abbrev rejected : List Input
rejected = checked ++ comes is_rejected ∷ []

abbrev terminated : List Input
terminated = comes with_finding ∷ []

abbrev cleaned_up : List Input
cleaned_up = checked ++ CleanUp a_day_after ∷ []

abbrev asked_for : List Input
asked_for = checked ++ comes request ∷ []

abbrev pub completed : List Input
completed = accepted ++ comes is_completed ∷ []

-- a record without content
abbrev asked_alone : List Input
asked_alone = comes request ∷ []

-- ---- the effect of each record

pub checking : moves scheme_s Itl [] (comes proposed)
    ≡ record { id = nz1; new = Checked; content = Some (to_jp all_units); messages = proposes Itl jp_node nz1 proposal.Checked (to_jp all_units) ∷ [] } ∷ []
unfolding verdict
checking = refl

pub terminating : moves scheme_s Itl [] (comes with_finding)
    ≡ record { id = nz1; new = Terminated; content = Some (to_jp (block 100 101 ∷ [])); messages = notification Itl nz_node nz1 (notified.Terminated (203 ∷ [])) ∷ [] } ∷ []
unfolding verdict
terminating = refl

pub accepting : moves scheme_s Itl checked (comes is_accepted)
    ≡ record { id = nz1; new = Accepted; content = Some (to_jp all_units); messages = notification Itl nz_node nz1 notified.Accepted ∷ [] } ∷ []
unfolding verdict
accepting = refl

pub rejecting : moves scheme_s Itl checked (comes is_rejected)
    ≡ record { id = nz1; new = Rejected; content = Some (to_jp all_units); messages = notification Itl nz_node nz1 (notified.Rejected (301 ∷ 304 ∷ [])) ∷ [] } ∷ []
unfolding verdict
rejecting = refl

pub completing : moves scheme_s Itl accepted (comes is_completed)
    ≡ record { id = nz1; new = Completed; content = Some (to_jp all_units); messages = notification Itl jp_node nz1 notified.Completed ∷ [] } ∷ []
unfolding verdict
completing = refl

pub cleaning_up : moves scheme_s Itl checked (CleanUp a_day_after)
    ≡ record { id = nz1; new = Cancelled; content = Some (to_jp all_units); messages = notification Itl nz_node nz1 notified.Cancelled ∷ notification Itl jp_node nz1 notified.Cancelled ∷ [] } ∷ []
unfolding verdict
cleaning_up = refl

pub cancelling_what_is_checked : moves scheme_s Itl checked (comes request)
    ≡ record { id = nz1; new = Cancelled; content = Some (to_jp all_units); messages = notification Itl nz_node nz1 notified.Cancelled ∷ notification Itl jp_node nz1 notified.Cancelled ∷ [] } ∷ []
unfolding verdict
cancelling_what_is_checked = refl

pub cancelling_what_never_came : moves scheme_s Itl [] (comes request)
    ≡ record { id = nz1; new = Cancelled; content = None; messages = notification Itl nz_node nz1 notified.Cancelled ∷ [] } ∷ []
unfolding verdict
cancelling_what_never_came = refl

-- ---- the same inputs at each status

-- each from the party that may send it
abbrev inputs : List Input
inputs = comes is_accepted
    ∷ comes is_rejected
    ∷ comes (notification nz_node Itl nz1 (notified.Terminated (207 ∷ [])))
    ∷ comes (notification nz_node Itl nz1 notified.Cancelled)
    ∷ comes is_completed
    ∷ comes request
    ∷ CleanUp a_day_after
    ∷ []

abbrev after : List Input → List Answer
after journal = answers scheme_s Itl journal inputs

pub unknown_at_log : after [] ≡ refused 47 ∷ refused 47 ∷ refused 47 ∷ refused 47 ∷ refused 47 ∷ recorded 0 ∷ again ∷ []
unfolding verdict
unknown_at_log = refl

pub after_checked : after checked ≡ recorded 1 ∷ recorded 1 ∷ refused 46 ∷ refused 46 ∷ refused 46 ∷ recorded 1 ∷ recorded 1 ∷ []
unfolding verdict
after_checked = refl

pub after_accepted : after accepted ≡ again ∷ refused 46 ∷ refused 46 ∷ refused 46 ∷ recorded 2 ∷ late ∷ again ∷ []
unfolding verdict
after_accepted = refl

pub after_rejected : after rejected ≡ refused 46 ∷ again ∷ refused 46 ∷ refused 46 ∷ refused 46 ∷ late ∷ again ∷ []
unfolding verdict
after_rejected = refl

pub after_terminated : after terminated ≡ refused 46 ∷ refused 46 ∷ refused 46 ∷ refused 46 ∷ refused 46 ∷ late ∷ again ∷ []
unfolding verdict
after_terminated = refl

pub after_clean_up : after cleaned_up ≡ late ∷ late ∷ refused 46 ∷ refused 46 ∷ refused 46 ∷ late ∷ again ∷ []
unfolding verdict
after_clean_up = refl

pub after_request : after asked_for ≡ late ∷ late ∷ refused 46 ∷ refused 46 ∷ refused 46 ∷ late ∷ again ∷ []
unfolding verdict
after_request = refl

pub after_completed : after completed ≡ again ∷ refused 46 ∷ refused 46 ∷ refused 46 ∷ again ∷ late ∷ again ∷ []
unfolding verdict
after_completed = refl

-- it knows no acquirer then
pub after_request_alone : after asked_alone ≡ refused 44 ∷ refused 44 ∷ refused 46 ∷ refused 46 ∷ refused 46 ∷ late ∷ again ∷ []
unfolding verdict
after_request_alone = refl

-- ---- the proposal once more

pub proposed_again : (answers scheme_s Itl checked checked ≡ again ∷ [])
    × (answers scheme_s Itl accepted checked ≡ again ∷ [])
    × (answers scheme_s Itl rejected checked ≡ again ∷ [])
    × (answers scheme_s Itl terminated terminated ≡ again ∷ [])
    × (answers scheme_s Itl cleaned_up checked ≡ again ∷ [])
    × (answers scheme_s Itl asked_for checked ≡ again ∷ [])
    × (answers scheme_s Itl completed checked ≡ again ∷ [])
unfolding verdict
proposed_again = (refl, refl, refl, refl, refl, refl, refl)

-- after an earlier cancellation it is late, regardless of the findings
pub proposed_after_cancellation : answers scheme_s Itl asked_alone (comes proposed ∷ comes with_finding ∷ []) ≡ late ∷ late ∷ []
unfolding verdict
proposed_after_cancellation = refl

-- ---- where the journal is full, recording is refused, and every other answer is as before

pub full_after_checked : answers scheme_of_one Itl checked (comes proposed ∷ inputs) ≡ again ∷ refused 49 ∷ refused 49 ∷ refused 46 ∷ refused 46 ∷ refused 46 ∷ refused 49 ∷ refused 49 ∷ []
unfolding verdict
full_after_checked = refl

pub full_after_accepted : answers scheme_of_two Itl accepted (comes proposed ∷ inputs) ≡ again ∷ again ∷ refused 46 ∷ refused 46 ∷ refused 46 ∷ refused 49 ∷ late ∷ again ∷ []
unfolding verdict
full_after_accepted = refl

pub full_after_clean_up : answers scheme_of_two Itl cleaned_up (comes proposed ∷ inputs) ≡ again ∷ late ∷ late ∷ refused 46 ∷ refused 46 ∷ refused 46 ∷ late ∷ again ∷ []
unfolding verdict
full_after_clean_up = refl

pub full_after_request_alone : answers scheme_of_one Itl asked_alone (comes proposed ∷ inputs) ≡ late ∷ refused 44 ∷ refused 44 ∷ refused 46 ∷ refused 46 ∷ refused 46 ∷ late ∷ again ∷ []
unfolding verdict
full_after_request_alone = refl
