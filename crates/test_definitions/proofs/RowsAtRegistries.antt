-- Each row of the initiator's and of the acquirer's table in a journal: which status changes and which messages go out,
-- what is a repeat, late or refused, and where the units are.
use Rattle.std.proofs.Common.{◌≡◌, Bool, true, false, List, [], ◌∷◌, ◌++◌, map, Some, None, refl}
use Rattle.units.specs.declared.code.Code.{Code}
use Rattle.units.specs.declared.code.Node.TheVariants.{Itl, Registry}
use Rattle.status.specs.declared.status.Status.TheVariants.{Proposed, Accepted, Rejected, Terminated, Cancelled, Completed}
use Rattle.wire.specs.declared.input.Input.{Input}
use Rattle.wire.specs.declared.input.Input.TheVariants.{Request}
use Rattle.wire.specs.declared.message.Message.{Message}
use Rattle.wire.specs.declared.message.ProposalStatus.TheVariants as proposal
use Rattle.wire.specs.declared.notified.NotifiedStatus.{NotifiedStatus}
use Rattle.wire.specs.declared.notified.NotifiedStatus.TheVariants as notified
use Rattle.protocol.specs.History as past
use Rattle.protocol.specs.History.{Transition, transitions_of}
use Rattle.protocol.specs.Verdict.{verdict, history}
use Rattle.protocol.proofs.WorkedScheme.{nz, jp, nz_node, jp_node, block, unit, nz1, nz2, scheme_s, scheme_of_one, notification}
use Rattle.test_definitions.proofs.ShortNames.{scheme_of_two, terms, to_jp, proposes, asks, comes, orders, Answer, recorded, again, late, refused, answers, moves}

-- ---- the initiator

abbrev told_nz : NotifiedStatus → Input
told_nz status = comes (notification Itl nz_node nz1 status)

abbrev proposed : List Input
proposed = orders 1 jp 7 (block 1 50 ∷ []) ∷ []

abbrev requested : List Input
requested = proposed ++ Request nz1 ∷ []

abbrev was_told : NotifiedStatus → List Input
was_told status = proposed ++ told_nz status ∷ []

abbrev rejection : NotifiedStatus
rejection = notified.Rejected (303 ∷ [])

abbrev termination : NotifiedStatus
termination = notified.Terminated (207 ∷ [])

pub proposing : moves scheme_s nz_node [] (orders 1 jp 7 (block 1 50 ∷ []))
    ≡ record { id = nz1; new = Proposed; content = Some (to_jp (block 1 50 ∷ [])); messages = proposes nz_node Itl nz1 proposal.Proposed (to_jp (block 1 50 ∷ [])) ∷ [] } ∷ []
unfolding verdict
proposing = refl

pub completing_at_initiator : moves scheme_s nz_node proposed (told_nz notified.Accepted)
    ≡ record { id = nz1; new = Completed; content = Some (to_jp (block 1 50 ∷ [])); messages = notification nz_node Itl nz1 notified.Completed ∷ [] } ∷ []
unfolding verdict
completing_at_initiator = refl

pub ending_at_initiator : (moves scheme_s nz_node proposed (told_nz rejection) ≡ record { id = nz1; new = Rejected; content = Some (to_jp (block 1 50 ∷ [])); messages = [] } ∷ [])
    × (moves scheme_s nz_node proposed (told_nz termination) ≡ record { id = nz1; new = Terminated; content = Some (to_jp (block 1 50 ∷ [])); messages = [] } ∷ [])
    × (moves scheme_s nz_node proposed (told_nz notified.Cancelled) ≡ record { id = nz1; new = Cancelled; content = Some (to_jp (block 1 50 ∷ [])); messages = [] } ∷ [])
unfolding verdict
ending_at_initiator = (refl, refl, refl)

pub requesting : moves scheme_s nz_node proposed (Request nz1)
    ≡ record { id = nz1; new = Proposed; content = Some (to_jp (block 1 50 ∷ [])); messages = asks nz_node Itl nz1 ∷ [] } ∷ []
unfolding verdict
requesting = refl

-- the notifications that the log may send it, and the order to ask for cancellation
abbrev at_nz : List Input
at_nz = told_nz notified.Accepted ∷ told_nz rejection ∷ told_nz termination ∷ told_nz notified.Cancelled ∷ told_nz notified.Completed ∷ Request nz1 ∷ []

abbrev nz_after : List Input → List Answer
nz_after journal = answers scheme_s nz_node journal at_nz

pub unknown_at_initiator : nz_after [] ≡ refused 47 ∷ refused 47 ∷ refused 47 ∷ refused 47 ∷ refused 47 ∷ refused 115 ∷ []
unfolding verdict
unknown_at_initiator = refl

pub after_proposed : nz_after proposed ≡ recorded 1 ∷ recorded 1 ∷ recorded 1 ∷ recorded 1 ∷ refused 46 ∷ recorded 1 ∷ []
unfolding verdict
after_proposed = refl

pub after_requested : nz_after requested ≡ recorded 2 ∷ recorded 2 ∷ recorded 2 ∷ recorded 2 ∷ refused 46 ∷ again ∷ []
unfolding verdict
after_requested = refl

pub initiator_after_accepted : nz_after (was_told notified.Accepted) ≡ again ∷ refused 46 ∷ refused 46 ∷ refused 46 ∷ refused 46 ∷ refused 116 ∷ []
unfolding verdict
initiator_after_accepted = refl

pub initiator_after_rejected : nz_after (was_told rejection) ≡ refused 46 ∷ again ∷ refused 46 ∷ refused 46 ∷ refused 46 ∷ refused 116 ∷ []
unfolding verdict
initiator_after_rejected = refl

pub initiator_after_terminated : nz_after (was_told termination) ≡ refused 46 ∷ refused 46 ∷ again ∷ refused 46 ∷ refused 46 ∷ refused 116 ∷ []
unfolding verdict
initiator_after_terminated = refl

pub initiator_after_cancelled : nz_after (was_told notified.Cancelled) ≡ refused 46 ∷ refused 46 ∷ refused 46 ∷ again ∷ refused 46 ∷ refused 116 ∷ []
unfolding verdict
initiator_after_cancelled = refl

pub initiator_full : (answers scheme_of_one nz_node proposed at_nz ≡ refused 49 ∷ refused 49 ∷ refused 49 ∷ refused 49 ∷ refused 46 ∷ refused 49 ∷ [])
    × (answers scheme_of_two nz_node requested at_nz ≡ refused 49 ∷ refused 49 ∷ refused 49 ∷ refused 49 ∷ refused 46 ∷ again ∷ [])
    × (answers scheme_of_two nz_node (was_told notified.Cancelled) at_nz ≡ refused 46 ∷ refused 46 ∷ refused 46 ∷ again ∷ refused 46 ∷ refused 116 ∷ [])
unfolding verdict
initiator_full = (refl, refl, refl)

-- a request for one transaction is none for another
pub requests_apart : answers scheme_s nz_node (requested ++ orders 1 jp 7 (block 51 60 ∷ []) ∷ []) (Request nz1 ∷ Request nz2 ∷ []) ≡ again ∷ recorded 3 ∷ []
unfolding verdict
requests_apart = refl

-- ---- the initiator's units: held, reserved and spendable

abbrev transitions : Code → List Input → List Transition
transitions c journal = transitions_of (history scheme_s (Registry c) journal)

abbrev units_at : Code → List Input → List Bool
units_at c journal = past.holds scheme_s c (transitions c journal) (unit 50) ∷ past.reserved c (transitions c journal) (unit 50) ∷ past.spendable scheme_s c (transitions c journal) (unit 50) ∷ []

pub units_of_initiator : map (units_at nz) ([] ∷ proposed ∷ requested ∷ was_told notified.Accepted ∷ was_told rejection ∷ was_told termination ∷ was_told notified.Cancelled ∷ [])
    ≡ (true ∷ false ∷ true ∷ []) ∷ (true ∷ true ∷ false ∷ []) ∷ (true ∷ true ∷ false ∷ []) ∷ (false ∷ false ∷ false ∷ []) ∷ (true ∷ false ∷ true ∷ []) ∷ (true ∷ false ∷ true ∷ []) ∷ (true ∷ false ∷ true ∷ []) ∷ []
unfolding verdict
units_of_initiator = refl

-- ---- the acquirer

abbrev told_jp : NotifiedStatus → Input
told_jp status = comes (notification Itl jp_node nz1 status)

abbrev passed_on : Message
passed_on = proposes Itl jp_node nz1 proposal.Checked (to_jp (block 1 50 ∷ []))

-- into an account that JP doesn't have
abbrev to_nine : Message
to_nine = proposes Itl jp_node nz1 proposal.Checked (terms 1 jp 9 (block 1 50 ∷ []))

abbrev accepted : List Input
accepted = comes passed_on ∷ []

abbrev rejected : List Input
rejected = comes to_nine ∷ []

abbrev cancelled : List Input
cancelled = accepted ++ told_jp notified.Cancelled ∷ []

abbrev completed : List Input
completed = accepted ++ told_jp notified.Completed ∷ []

-- a record without content
abbrev cancelled_first : List Input
cancelled_first = told_jp notified.Cancelled ∷ []

pub accepting_at_acquirer : moves scheme_s jp_node [] (comes passed_on)
    ≡ record { id = nz1; new = Accepted; content = Some (to_jp (block 1 50 ∷ [])); messages = notification jp_node Itl nz1 notified.Accepted ∷ [] } ∷ []
unfolding verdict
accepting_at_acquirer = refl

pub rejecting_at_acquirer : moves scheme_s jp_node [] (comes to_nine)
    ≡ record { id = nz1; new = Rejected; content = Some (terms 1 jp 9 (block 1 50 ∷ [])); messages = notification jp_node Itl nz1 (notified.Rejected (301 ∷ [])) ∷ [] } ∷ []
unfolding verdict
rejecting_at_acquirer = refl

pub ending_at_acquirer : (moves scheme_s jp_node [] (told_jp notified.Cancelled) ≡ record { id = nz1; new = Cancelled; content = None; messages = [] } ∷ [])
    × (moves scheme_s jp_node accepted (told_jp notified.Cancelled) ≡ record { id = nz1; new = Cancelled; content = Some (to_jp (block 1 50 ∷ [])); messages = [] } ∷ [])
    × (moves scheme_s jp_node accepted (told_jp notified.Completed) ≡ record { id = nz1; new = Completed; content = Some (to_jp (block 1 50 ∷ [])); messages = [] } ∷ [])
unfolding verdict
ending_at_acquirer = (refl, refl, refl)

abbrev at_jp : List Input
at_jp = told_jp notified.Accepted ∷ told_jp rejection ∷ told_jp termination ∷ told_jp notified.Cancelled ∷ told_jp notified.Completed ∷ Request nz1 ∷ []

abbrev jp_after : List Input → List Answer
jp_after journal = answers scheme_s jp_node journal at_jp

pub unknown_at_acquirer : jp_after [] ≡ refused 47 ∷ refused 47 ∷ refused 47 ∷ recorded 0 ∷ refused 47 ∷ refused 115 ∷ []
unfolding verdict
unknown_at_acquirer = refl

pub acquirer_after_accepted : jp_after accepted ≡ refused 46 ∷ refused 46 ∷ refused 46 ∷ recorded 1 ∷ recorded 1 ∷ refused 115 ∷ []
unfolding verdict
acquirer_after_accepted = refl

pub acquirer_after_rejected : jp_after rejected ≡ refused 46 ∷ refused 46 ∷ refused 46 ∷ late ∷ refused 46 ∷ refused 115 ∷ []
unfolding verdict
acquirer_after_rejected = refl

pub acquirer_after_cancelled : jp_after cancelled ≡ refused 46 ∷ refused 46 ∷ refused 46 ∷ again ∷ refused 46 ∷ refused 115 ∷ []
unfolding verdict
acquirer_after_cancelled = refl

pub acquirer_after_completed : jp_after completed ≡ refused 46 ∷ refused 46 ∷ refused 46 ∷ refused 46 ∷ again ∷ refused 115 ∷ []
unfolding verdict
acquirer_after_completed = refl

pub acquirer_after_cancelled_first : jp_after cancelled_first ≡ refused 46 ∷ refused 46 ∷ refused 46 ∷ again ∷ refused 46 ∷ refused 115 ∷ []
unfolding verdict
acquirer_after_cancelled_first = refl

pub passed_on_again : (answers scheme_s jp_node accepted (comes passed_on ∷ []) ≡ again ∷ [])
    × (answers scheme_s jp_node rejected (comes to_nine ∷ []) ≡ again ∷ [])
    × (answers scheme_s jp_node cancelled (comes passed_on ∷ []) ≡ again ∷ [])
    × (answers scheme_s jp_node completed (comes passed_on ∷ []) ≡ again ∷ [])
unfolding verdict
passed_on_again = (refl, refl, refl, refl)

-- after an earlier cancellation it is late, regardless of the findings
pub passed_on_after_cancellation : answers scheme_s jp_node cancelled_first (comes passed_on ∷ comes to_nine ∷ []) ≡ late ∷ late ∷ []
unfolding verdict
passed_on_after_cancellation = refl

pub acquirer_full : (answers scheme_of_one jp_node accepted (comes passed_on ∷ at_jp) ≡ again ∷ refused 46 ∷ refused 46 ∷ refused 46 ∷ refused 49 ∷ refused 49 ∷ refused 115 ∷ [])
    × (answers scheme_of_one jp_node cancelled_first (comes passed_on ∷ at_jp) ≡ late ∷ refused 46 ∷ refused 46 ∷ refused 46 ∷ again ∷ refused 46 ∷ refused 115 ∷ [])
    × (answers scheme_of_one jp_node rejected (comes to_nine ∷ at_jp) ≡ again ∷ refused 46 ∷ refused 46 ∷ refused 46 ∷ late ∷ refused 46 ∷ refused 115 ∷ [])
unfolding verdict
acquirer_full = (refl, refl, refl)

-- ---- the acquirer's units

pub units_of_acquirer : map (units_at jp) ([] ∷ accepted ∷ rejected ∷ cancelled ∷ completed ∷ cancelled_first ∷ [])
    ≡ (false ∷ false ∷ false ∷ []) ∷ (false ∷ false ∷ false ∷ []) ∷ (false ∷ false ∷ false ∷ []) ∷ (false ∷ false ∷ false ∷ []) ∷ (true ∷ false ∷ true ∷ []) ∷ (false ∷ false ∷ false ∷ []) ∷ []
unfolding verdict
units_of_acquirer = refl

-- none of the units is credited where one of them is held: JP accepted two transfers that share the unit 50
pub held_already : answers scheme_s jp_node (accepted ++ comes (proposes Itl jp_node nz2 proposal.Checked (to_jp (block 50 60 ∷ []))) ∷ told_jp notified.Completed ∷ []) (comes (notification Itl jp_node nz2 notified.Completed) ∷ comes (notification Itl jp_node nz2 notified.Cancelled) ∷ []) ≡ refused 46 ∷ recorded 3 ∷ []
unfolding verdict
held_already = refl
