-- Messages: every cause of refusal at once, then one cause less each time, at the log and at a registry; and which
-- party may send which message.
use Rattle.std.proofs.Common.{◌≡◌, List, [], ◌∷◌, ◌++◌, map, refl}
use Rattle.units.specs.declared.block.Kind.TheVariants.{Cer}
use Rattle.units.specs.declared.code.Node.{Node}
use Rattle.units.specs.declared.code.Node.TheVariants.{Itl, Registry}
use Rattle.status.specs.Content.{Content}
use Rattle.wire.specs.declared.input.Input.{Input}
use Rattle.wire.specs.declared.message.Message.{Message}
use Rattle.wire.specs.declared.message.ProposalStatus.TheVariants as proposal
use Rattle.wire.specs.declared.notified.NotifiedStatus.{NotifiedStatus}
use Rattle.wire.specs.declared.notified.NotifiedStatus.TheVariants as notified
use Rattle.scheme.specs.declared.registries.Scheme.{Scheme}
use Rattle.protocol.specs.Verdict.{verdict}
use Rattle.protocol.proofs.WorkedScheme.{nz, jp, nz_node, jp_node, block, block_of, nz1, nz2, scheme_s, scheme_of_one, notification}
use Rattle.test_definitions.proofs.ShortNames.{au, jp1, nz9, scheme_of_two, terms, to_jp, proposes, asks, comes, orders, Answer, recorded, again, refused, answers}
use Rattle.test_definitions.proofs.ThreeRegistries.{au_node, jp_block, scheme_t}

-- the node's answer to each message after the journal
abbrev replies : Scheme → Node → List Input → List Message → List Answer
replies scheme n journal messages = answers scheme n journal (map comes messages)

-- ---- a proposal at the log, which knows the transaction and has no room for another record

abbrev ten : Content
ten = to_jp (block 1 10 ∷ [])

abbrev nine : Content
nine = to_jp (block 1 9 ∷ [])

abbrev known : List Input
known = comes (proposes nz_node Itl nz1 proposal.Proposed ten) ∷ []

-- AU isn't in this scheme
abbrev at_log : List Message → List Answer
at_log messages = replies scheme_of_one Itl known messages

pub proposal_addressee_before_sender : at_log (proposes (Registry au) jp_node nz1 proposal.Checked nine ∷ proposes (Registry au) Itl nz1 proposal.Checked nine ∷ []) ≡ refused 42 ∷ refused 43 ∷ []
unfolding verdict
proposal_addressee_before_sender = refl

pub proposal_sender_before_party : at_log (proposes (Registry au) Itl nz1 proposal.Checked nine ∷ proposes Itl Itl nz1 proposal.Checked nine ∷ proposes jp_node Itl nz1 proposal.Checked nine ∷ []) ≡ refused 43 ∷ refused 43 ∷ refused 44 ∷ []
unfolding verdict
proposal_sender_before_party = refl

pub proposal_party_before_content : at_log (proposes jp_node Itl nz1 proposal.Checked nine ∷ proposes nz_node Itl nz1 proposal.Checked nine ∷ []) ≡ refused 44 ∷ refused 45 ∷ []
unfolding verdict
proposal_party_before_content = refl

pub proposal_content_before_status : at_log (proposes nz_node Itl nz1 proposal.Checked nine ∷ proposes nz_node Itl nz1 proposal.Checked ten ∷ []) ≡ refused 45 ∷ refused 46 ∷ []
unfolding verdict
proposal_content_before_status = refl

pub proposal_status_before_room : at_log (proposes nz_node Itl nz1 proposal.Checked ten ∷ proposes nz_node Itl nz2 proposal.Checked nine ∷ proposes nz_node Itl nz2 proposal.Proposed nine ∷ proposes nz_node Itl nz1 proposal.Proposed ten ∷ []) ≡ refused 46 ∷ refused 46 ∷ refused 49 ∷ again ∷ []
unfolding verdict
proposal_status_before_room = refl

-- each part of a content counts, and blocks are compared as lists
pub other_contents : at_log (proposes nz_node Itl nz1 proposal.Proposed (terms 2 jp 7 (block 1 10 ∷ []))
    ∷ proposes nz_node Itl nz1 proposal.Proposed (terms 1 nz 7 (block 1 10 ∷ []))
    ∷ proposes nz_node Itl nz1 proposal.Proposed (terms 1 jp 8 (block 1 10 ∷ []))
    ∷ proposes nz_node Itl nz1 proposal.Proposed (to_jp (block_of Cer 1 10 ∷ []))
    ∷ proposes nz_node Itl nz1 proposal.Proposed (to_jp (block 1 5 ∷ block 6 10 ∷ []))
    ∷ proposes nz_node Itl nz1 proposal.Proposed (to_jp (jp_block 1 10 ∷ []))
    ∷ proposes nz_node Itl nz1 proposal.Proposed ten
    ∷ [])
    ≡ refused 45 ∷ refused 45 ∷ refused 45 ∷ refused 45 ∷ refused 45 ∷ refused 45 ∷ again ∷ []
unfolding verdict
other_contents = refl

-- ---- a notification at the log

pub notification_addressee_before_sender : at_log (notification (Registry au) jp_node nz9 notified.Accepted ∷ notification (Registry au) Itl nz9 notified.Accepted ∷ []) ≡ refused 42 ∷ refused 43 ∷ []
unfolding verdict
notification_addressee_before_sender = refl

pub notification_sender_before_known : at_log (notification Itl Itl nz9 notified.Accepted ∷ notification (Registry au) Itl nz9 notified.Accepted ∷ notification nz_node Itl nz9 notified.Accepted ∷ []) ≡ refused 43 ∷ refused 43 ∷ refused 47 ∷ []
unfolding verdict
notification_sender_before_known = refl

-- for an unknown transaction no party is right, and no row is there
pub known_before_party : at_log (notification nz_node Itl nz9 notified.Accepted ∷ notification jp_node Itl nz9 notified.Completed ∷ notification nz_node Itl nz9 notified.Cancelled ∷ notification nz_node Itl nz1 notified.Accepted ∷ notification jp_node Itl nz1 notified.Completed ∷ [])
    ≡ refused 47 ∷ refused 47 ∷ refused 47 ∷ refused 44 ∷ refused 44 ∷ []
unfolding verdict
known_before_party = refl

abbrev rejected : List Input
rejected = known ++ comes (notification jp_node Itl nz1 (notified.Rejected (303 ∷ []))) ∷ []

-- nobody may accept what is rejected: the acquirer by its row, the initiator as the wrong party
pub party_before_row : replies scheme_of_two Itl rejected (notification nz_node Itl nz1 notified.Accepted ∷ notification jp_node Itl nz1 notified.Accepted ∷ notification jp_node Itl nz1 notified.Completed ∷ notification nz_node Itl nz1 notified.Completed ∷ [])
    ≡ refused 44 ∷ refused 46 ∷ refused 44 ∷ refused 46 ∷ []
unfolding verdict
party_before_row = refl

pub row_before_room : at_log (notification nz_node Itl nz1 notified.Completed ∷ notification jp_node Itl nz1 notified.Accepted ∷ notification jp_node Itl nz1 (notified.Rejected (303 ∷ [])) ∷ []) ≡ refused 46 ∷ refused 49 ∷ refused 49 ∷ []
unfolding verdict
row_before_room = refl

-- ---- a request at the log: an unknown transaction is no cause

pub request_ladder : at_log (asks (Registry au) jp_node nz1 ∷ asks (Registry au) Itl nz1 ∷ asks Itl Itl nz1 ∷ asks jp_node Itl nz1 ∷ asks jp_node Itl nz9 ∷ asks nz_node Itl nz1 ∷ asks nz_node Itl nz9 ∷ [])
    ≡ refused 42 ∷ refused 43 ∷ refused 43 ∷ refused 44 ∷ refused 44 ∷ refused 49 ∷ refused 49 ∷ []
unfolding verdict
request_ladder = refl

-- ---- who may say what at the log: a transfer from NZ to JP, where AU is a registry too

abbrev checked : List Input
checked = comes (proposes nz_node Itl nz1 proposal.Proposed ten) ∷ []

abbrev accepted : List Input
accepted = checked ++ comes (notification jp_node Itl nz1 notified.Accepted) ∷ []

-- JP, then NZ, then AU, then the log itself
abbrev each_says : List Input → NotifiedStatus → List Answer
each_says journal status = replies scheme_t Itl journal (notification jp_node Itl nz1 status ∷ notification nz_node Itl nz1 status ∷ notification au_node Itl nz1 status ∷ notification Itl Itl nz1 status ∷ [])

pub only_the_acquirer_accepts : each_says checked notified.Accepted ≡ recorded 1 ∷ refused 44 ∷ refused 44 ∷ refused 43 ∷ []
unfolding verdict
only_the_acquirer_accepts = refl

pub only_the_acquirer_rejects : each_says checked (notified.Rejected (303 ∷ [])) ≡ recorded 1 ∷ refused 44 ∷ refused 44 ∷ refused 43 ∷ []
unfolding verdict
only_the_acquirer_rejects = refl

pub only_the_initiator_completes : (each_says accepted notified.Completed ≡ refused 44 ∷ recorded 2 ∷ refused 44 ∷ refused 43 ∷ [])
    × (each_says checked notified.Completed ≡ refused 44 ∷ refused 46 ∷ refused 44 ∷ refused 43 ∷ [])
unfolding verdict
only_the_initiator_completes = (refl, refl)

pub nobody_terminates_or_cancels : (each_says checked (notified.Terminated (207 ∷ [])) ≡ refused 46 ∷ refused 46 ∷ refused 46 ∷ refused 43 ∷ [])
    × (each_says checked notified.Cancelled ≡ refused 46 ∷ refused 46 ∷ refused 46 ∷ refused 43 ∷ [])
unfolding verdict
nobody_terminates_or_cancels = (refl, refl)

-- repeats too come from that party alone
pub repeats_by_party : (each_says accepted notified.Accepted ≡ again ∷ refused 44 ∷ refused 44 ∷ refused 43 ∷ [])
    × (each_says (accepted ++ comes (notification nz_node Itl nz1 notified.Completed) ∷ []) notified.Completed ≡ refused 44 ∷ again ∷ refused 44 ∷ refused 43 ∷ [])
unfolding verdict
repeats_by_party = (refl, refl)

pub only_the_initiator_proposes_and_asks : (replies scheme_t Itl [] (proposes jp_node Itl nz1 proposal.Proposed ten ∷ proposes au_node Itl nz1 proposal.Proposed ten ∷ proposes nz_node Itl nz1 proposal.Proposed ten ∷ []) ≡ refused 44 ∷ refused 44 ∷ recorded 0 ∷ [])
    × (replies scheme_t Itl checked (asks jp_node Itl nz1 ∷ asks au_node Itl nz1 ∷ asks nz_node Itl nz1 ∷ []) ≡ refused 44 ∷ refused 44 ∷ recorded 1 ∷ [])
unfolding verdict
only_the_initiator_proposes_and_asks = (refl, refl)

-- ---- a proposal at a registry, which knows the transaction and has no room for another record

abbrev passed_on : List Input
passed_on = comes (proposes Itl jp_node nz1 proposal.Checked ten) ∷ []

abbrev at_jp : List Message → List Answer
at_jp messages = replies scheme_of_one jp_node passed_on messages

abbrev crossing : Content
crossing = to_jp (block 1 5 ∷ block_of Cer 5 6 ∷ [])

pub passed_on_addressee_before_sender : at_jp (proposes nz_node nz_node nz1 proposal.Proposed crossing ∷ proposes Itl Itl nz1 proposal.Proposed crossing ∷ proposes nz_node jp_node nz1 proposal.Proposed crossing ∷ []) ≡ refused 42 ∷ refused 42 ∷ refused 43 ∷ []
unfolding verdict
passed_on_addressee_before_sender = refl

pub passed_on_sender_before_party : at_jp (proposes jp_node jp_node nz1 proposal.Proposed crossing ∷ proposes (Registry au) jp_node nz1 proposal.Proposed crossing ∷ proposes Itl jp_node nz1 proposal.Proposed crossing ∷ []) ≡ refused 43 ∷ refused 43 ∷ refused 44 ∷ []
unfolding verdict
passed_on_sender_before_party = refl

pub passed_on_party_before_content : at_jp (proposes Itl jp_node nz1 proposal.Proposed crossing ∷ proposes Itl jp_node nz1 proposal.Proposed (terms 1 nz 7 (block 1 9 ∷ [])) ∷ proposes Itl jp_node nz1 proposal.Proposed nine ∷ []) ≡ refused 44 ∷ refused 44 ∷ refused 45 ∷ []
unfolding verdict
passed_on_party_before_content = refl

pub passed_on_content_before_status : at_jp (proposes Itl jp_node nz1 proposal.Proposed nine ∷ proposes Itl jp_node nz1 proposal.Proposed ten ∷ proposes Itl jp_node nz1 proposal.Checked nine ∷ []) ≡ refused 45 ∷ refused 46 ∷ refused 45 ∷ []
unfolding verdict
passed_on_content_before_status = refl

pub passed_on_status_before_room : at_jp (proposes Itl jp_node nz2 proposal.Proposed ten ∷ proposes Itl jp_node nz2 proposal.Checked ten ∷ proposes Itl jp_node nz1 proposal.Checked ten ∷ []) ≡ refused 46 ∷ refused 49 ∷ again ∷ []
unfolding verdict
passed_on_status_before_room = refl

-- each way in which it isn't for this registry, alone: another acquirer, an identifier of its own, and blocks that
-- share a unit
pub not_for_this_registry : replies scheme_s jp_node [] (proposes Itl jp_node nz1 proposal.Checked (terms 1 nz 7 (block 1 9 ∷ []))
    ∷ proposes Itl jp_node jp1 proposal.Checked nine
    ∷ proposes Itl jp_node nz1 proposal.Checked crossing
    ∷ proposes Itl jp_node nz1 proposal.Checked (to_jp (block 6 9 ∷ block 1 2 ∷ block 2 3 ∷ []))
    ∷ proposes Itl jp_node nz1 proposal.Checked nine
    ∷ [])
    ≡ refused 44 ∷ refused 44 ∷ refused 44 ∷ refused 44 ∷ recorded 0 ∷ []
unfolding verdict
not_for_this_registry = refl

-- its own transaction, with another content and with the same
pub own_transaction : replies scheme_t jp_node (orders 7 nz 1 (jp_block 1 5 ∷ []) ∷ []) (proposes Itl jp_node jp1 proposal.Checked (terms 7 jp 1 (jp_block 1 5 ∷ [])) ∷ proposes Itl jp_node jp1 proposal.Checked (terms 7 nz 1 (jp_block 1 5 ∷ [])) ∷ [])
    ≡ refused 44 ∷ refused 44 ∷ []
unfolding verdict
own_transaction = refl

-- ---- a notification at a registry

pub told_addressee_before_sender : at_jp (notification nz_node nz_node nz9 notified.Accepted ∷ notification Itl nz_node nz9 notified.Accepted ∷ notification nz_node jp_node nz9 notified.Accepted ∷ []) ≡ refused 42 ∷ refused 42 ∷ refused 43 ∷ []
unfolding verdict
told_addressee_before_sender = refl

pub told_sender_before_known : at_jp (notification jp_node jp_node nz9 notified.Accepted ∷ notification (Registry au) jp_node nz9 notified.Accepted ∷ notification Itl jp_node nz9 notified.Accepted ∷ []) ≡ refused 43 ∷ refused 43 ∷ refused 47 ∷ []
unfolding verdict
told_sender_before_known = refl

-- an unknown transaction of another registry may be cancelled before it comes, one of this registry may not
pub told_known_before_row : at_jp (notification Itl jp_node nz9 notified.Completed ∷ notification Itl jp_node jp1 notified.Cancelled ∷ notification Itl jp_node nz9 notified.Cancelled ∷ notification Itl jp_node nz1 notified.Accepted ∷ notification Itl jp_node nz1 notified.Cancelled ∷ [])
    ≡ refused 47 ∷ refused 47 ∷ refused 49 ∷ refused 46 ∷ refused 49 ∷ []
unfolding verdict
told_known_before_row = refl

-- ---- a request at a registry

pub asked_at_registry : at_jp (asks nz_node nz_node nz1 ∷ asks Itl nz_node nz1 ∷ asks nz_node jp_node nz1 ∷ asks jp_node jp_node jp1 ∷ asks Itl jp_node nz1 ∷ asks Itl jp_node nz9 ∷ asks Itl jp_node jp1 ∷ [])
    ≡ refused 42 ∷ refused 42 ∷ refused 43 ∷ refused 43 ∷ refused 46 ∷ refused 46 ∷ refused 46 ∷ []
unfolding verdict
asked_at_registry = refl

pub asked_at_initiator : replies scheme_s nz_node (orders 1 jp 7 (block 1 10 ∷ []) ∷ []) (asks Itl nz_node nz1 ∷ []) ≡ refused 46 ∷ []
unfolding verdict
asked_at_initiator = refl
