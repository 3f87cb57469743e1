-- A registry asks for cancellation: before an answer, before its proposal comes, too late; and the refusals.
use Rattle.std.proofs.Common.{◌≡◌, List, [], ◌∷◌, ◌++◌, Some, None, refl}
use Rattle.std.specs.Prelude.{take}
use Rattle.units.specs.declared.code.Node.{Node}
use Rattle.units.specs.declared.code.Node.TheVariants.{Itl}
use Rattle.status.specs.declared.id.TransactionId.{TransactionId}
use Rattle.status.specs.declared.status.Status.TheVariants.{Accepted, Cancelled, Completed}
use Rattle.wire.specs.declared.input.Input.{Input}
use Rattle.wire.specs.declared.input.Input.TheVariants as input
use Rattle.wire.specs.declared.message.Body.TheVariants as body
use Rattle.wire.specs.declared.message.Message.{Message}
use Rattle.wire.specs.declared.notified.NotifiedStatus.TheVariants as notified
use Rattle.protocol.specs.Deciding.{Verdict, IsLate, IsRefused}
use Rattle.protocol.specs.declared.event.Outcome.TheVariants.{Recorded, Repeat, Late, Refused, Done, NotPossible}
use Rattle.protocol.specs.declared.event.WorldEvent.{WorldEvent}
use Rattle.protocol.specs.declared.event.WorldEvent.TheVariants.{Take}
use Rattle.protocol.specs.Verdict.{verdict, history}
use Rattle.protocol.specs.World.{World, opening, step, outcomes}
use Rattle.protocol.proofs.WorkedScheme.{nz_node, jp_node, nz, nz1, nz2, scheme_s, first_of_may, commit, post, deliver, transfer, after, status, message_at, notification, content_of, held_units, spendable_units, owed_units}

abbrev request : Node → TransactionId → WorldEvent
request n t = Take n (input.Request t)

abbrev request_of : Node → Node → TransactionId → Message
request_of from to t = record { from = from; to = to; id = t; body = body.Request }

-- ---- before the answer

abbrev request_before_the_answer_events : List WorldEvent
request_before_the_answer_events =
    take 6 transfer ++ request nz_node nz1 ∷ request nz_node nz1 ∷ commit nz_node 1 ∷ post nz_node 1 ∷ deliver 2 ∷ commit Itl 1 ∷ post Itl 1 ∷ post Itl 2
    ∷ deliver 3 ∷ deliver 4 ∷ deliver 1 ∷ []

abbrev request_before_the_answer_world : World
request_before_the_answer_world = after request_before_the_answer_events

pub request_before_the_answer : outcomes (opening scheme_s) request_before_the_answer_events
    ≡ Recorded 0 ∷ Done ∷ Done ∷ Recorded 0 ∷ Done ∷ Done
    ∷ Recorded 1 ∷ Repeat ∷ Done ∷ Done ∷ Recorded 1 ∷ Done ∷ Done ∷ Done
    ∷ Recorded 2 ∷ Recorded 0 ∷ Late ∷ []
unfolding step verdict
request_before_the_answer = refl

pub request_before_the_answer_messages : (message_at request_before_the_answer_world nz_node 1 ≡ Some (request_of nz_node Itl nz1))
    × (message_at request_before_the_answer_world nz_node 2 ≡ None)
    × (message_at request_before_the_answer_world Itl 1 ≡ Some (notification Itl nz_node nz1 notified.Cancelled))
    × (message_at request_before_the_answer_world Itl 2 ≡ Some (notification Itl jp_node nz1 notified.Cancelled))
    × (message_at request_before_the_answer_world Itl 3 ≡ None)
unfolding step verdict
request_before_the_answer_messages = (refl, refl, refl, refl, refl)

pub request_before_the_answer_statuses : (status request_before_the_answer_world nz_node nz1 ≡ Some Cancelled)
    × (status request_before_the_answer_world Itl nz1 ≡ Some Cancelled)
    × (status request_before_the_answer_world jp_node nz1 ≡ Some Cancelled)
    × (spendable_units request_before_the_answer_world nz ≡ 100)
    × (owed_units request_before_the_answer_world ≡ 0)
unfolding step verdict
request_before_the_answer_statuses = (refl, refl, refl, refl, refl)

-- ---- before the proposal comes to the log

abbrev request_before_the_proposal_events : List WorldEvent
request_before_the_proposal_events =
    take 3 transfer ++ request nz_node nz1 ∷ commit nz_node 1 ∷ post nz_node 1 ∷ deliver 1 ∷ deliver 0 ∷ commit Itl 1 ∷ post Itl 0 ∷ deliver 2 ∷ []

abbrev request_before_the_proposal_world : World
request_before_the_proposal_world = after request_before_the_proposal_events

pub request_before_the_proposal : outcomes (opening scheme_s) request_before_the_proposal_events
    ≡ Recorded 0 ∷ Done ∷ Done
    ∷ Recorded 1 ∷ Done ∷ Done ∷ Recorded 0 ∷ Late ∷ Done ∷ Done ∷ Recorded 2 ∷ []
unfolding step verdict
request_before_the_proposal = refl

pub request_before_the_proposal_statuses : (status request_before_the_proposal_world nz_node nz1 ≡ Some Cancelled)
    × (status request_before_the_proposal_world Itl nz1 ≡ Some Cancelled)
    × (status request_before_the_proposal_world jp_node nz1 ≡ None)
    × (content_of request_before_the_proposal_world Itl nz1 ≡ None)
    × (message_at request_before_the_proposal_world Itl 1 ≡ None)
    × (spendable_units request_before_the_proposal_world nz ≡ 100)
    × (owed_units request_before_the_proposal_world ≡ 0)
unfolding step verdict
request_before_the_proposal_statuses = (refl, refl, refl, refl, refl, refl, refl)

-- ---- after the answer came to the log

abbrev request_too_late_events : List WorldEvent
request_too_late_events =
    take 11 transfer ++ request nz_node nz1 ∷ commit nz_node 1 ∷ post nz_node 1 ∷ deliver 3 ∷ post Itl 1 ∷ deliver 4
    ∷ request nz_node nz1 ∷ request nz_node nz2 ∷ request jp_node nz1 ∷ request Itl nz1 ∷ []

abbrev request_too_late_world : World
request_too_late_world = after request_too_late_events

pub request_too_late : outcomes (opening scheme_s) request_too_late_events
    ≡ Recorded 0 ∷ Done ∷ Done ∷ Recorded 0 ∷ Done ∷ Done ∷ Recorded 0 ∷ Done ∷ Done ∷ Recorded 1 ∷ Done
    ∷ Recorded 1 ∷ Done ∷ Done ∷ Late ∷ Done ∷ Recorded 2
    ∷ Refused 116 ∷ Refused 115 ∷ Refused 115 ∷ NotPossible ∷ []
unfolding step verdict
request_too_late = refl

pub request_too_late_statuses : (status request_too_late_world nz_node nz1 ≡ Some Completed)
    × (status request_too_late_world Itl nz1 ≡ Some Accepted)
    × (status request_too_late_world jp_node nz1 ≡ Some Accepted)
    × (held_units request_too_late_world nz ≡ 0)
    × (owed_units request_too_late_world ≡ 100)
unfolding step verdict
request_too_late_statuses = (refl, refl, refl, refl, refl)

-- ---- what is refused

abbrev comes : Message → Input
comes m = input.Received m first_of_may

abbrev says : Node → List Input → Message → Verdict
says n journal m = verdict scheme_s n (history scheme_s n journal) (comes m)

-- the log knows it by a request alone
abbrev asked : List Input
asked = comes (request_of nz_node Itl nz1) ∷ []

pub request_refusals : (says Itl [] (request_of nz_node jp_node nz1) ≡ IsRefused 42)
    × (says Itl [] (request_of Itl Itl nz1) ≡ IsRefused 43)
    × (says Itl [] (request_of jp_node Itl nz1) ≡ IsRefused 44)
    × (says nz_node [] (request_of Itl jp_node nz1) ≡ IsRefused 42)
    × (says nz_node [] (request_of jp_node nz_node nz1) ≡ IsRefused 43)
    × (says nz_node [] (request_of Itl nz_node nz1) ≡ IsRefused 46)
    × (says jp_node [] (request_of Itl jp_node nz1) ≡ IsRefused 46)
    × (says Itl asked (request_of nz_node Itl nz1) ≡ IsLate)
unfolding verdict
request_refusals = (refl, refl, refl, refl, refl, refl, refl, refl)

pub without_content_refusals : (says Itl asked (notification jp_node Itl nz1 notified.Accepted) ≡ IsRefused 44)
    × (says Itl asked (notification jp_node Itl nz1 (notified.Rejected (303 ∷ []))) ≡ IsRefused 44)
    × (says Itl asked (notification jp_node Itl nz1 (notified.Terminated (207 ∷ []))) ≡ IsRefused 46)
    × (says Itl asked (notification jp_node Itl nz1 notified.Cancelled) ≡ IsRefused 46)
    × (says Itl asked (notification jp_node Itl nz1 notified.Completed) ≡ IsRefused 44)
    × (says Itl asked (notification nz_node Itl nz1 notified.Completed) ≡ IsRefused 46)
unfolding verdict
without_content_refusals = (refl, refl, refl, refl, refl, refl)
