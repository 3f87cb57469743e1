-- A node's results for inputs that come one after another: at the registry NZ and at the log, from the empty journal on.
use Rattle.std.proofs.Common.{◌≡◌, ℕ, true, false, List, [], ◌∷◌, map, refl, lit≤, lit<}
use Rattle.units.specs.declared.block.Kind.TheVariants.{Cer}
use Rattle.units.specs.declared.block.RawBlock.{RawBlock}
use Rattle.units.specs.declared.code.Node.{Node}
use Rattle.units.specs.declared.code.Node.TheVariants.{Itl, Registry}
use Rattle.status.specs.Id.{number_from}
use Rattle.status.specs.declared.id.TransactionId.{TransactionId}
use Rattle.wire.specs.declared.input.Input.{Input}
use Rattle.wire.specs.declared.input.Input.TheVariants.{Ack, CleanUp, CloseAccount, Eligible, OpenAccount, Received, Request}
use Rattle.wire.specs.declared.message.Message.{Message}
use Rattle.wire.specs.declared.message.ProposalStatus.TheVariants as proposal
use Rattle.wire.specs.declared.notified.NotifiedStatus.TheVariants as notified
use Rattle.scheme.specs.declared.registries.Scheme.{Scheme}
use Rattle.protocol.specs.Cores.{answer, after}
use Rattle.protocol.specs.History.{Entry, is_acknowledged, sends}
use Rattle.protocol.specs.Verdict.{verdict, history}
use Rattle.protocol.proofs.WorkedScheme.{nz, jp, nz_node, jp_node, block, block_of, nz1, nz2, scheme_s, scheme_of_one, a_second_before, a_day_after, at, number, notification}
use Rattle.test_definitions.proofs.ShortNames.{au, jp1, terms, to_jp, proposes, asks, comes, orders, Answer, answers, recorded, again, late, refused, a_second_later}

-- the result of each input after the records of those before it
abbrev walk_from : Scheme → Node → (journal inputs : List Input) → List Answer
walk_from scheme n journal [] = []
walk_from scheme n journal (i ∷ rest) = answer scheme n journal i ∷ walk_from scheme n (after journal i (answer scheme n journal i)) rest

abbrev pub walk : Node → List Input → List Answer
walk n inputs = walk_from scheme_s n [] inputs

-- the journal after all of them
abbrev journal_from : Scheme → Node → (journal inputs : List Input) → List Input
journal_from scheme n journal [] = journal
journal_from scheme n journal (i ∷ rest) = journal_from scheme n (after journal i (answer scheme n journal i)) rest

abbrev past : Node → List Input → List Entry
past n inputs = history scheme_s n (journal_from scheme_s n [] inputs)

-- the messages that the node has sent then, in the order of their keys
abbrev pub sent : Node → List Input → List Message
sent n inputs = sends (past n inputs)

-- ---- the inputs of the registry NZ

abbrev hundred : Input
hundred = orders 1 jp 7 (block 1 100 ∷ [])

abbrev sixty : Input
sixty = orders 1 jp 7 (block 1 60 ∷ [])

abbrev close_2 : Input
close_2 = CloseAccount (number 2 (lit< tt))

abbrev open_2 : Input
open_2 = OpenAccount (number 2 (lit< tt))

abbrev ack_0 : Input
ack_0 = Ack (number 0 (lit< tt))

abbrev request : Input
request = Request nz1

abbrev accepted_to_nz : Input
accepted_to_nz = comes (notification Itl nz_node nz1 notified.Accepted)

-- ---- its orders, refused by their first cause

abbrev single : ℕ → RawBlock
single n = block n n

abbrev seventeen : List RawBlock
seventeen = map single (1 ∷ 2 ∷ 3 ∷ 4 ∷ 5 ∷ 6 ∷ 7 ∷ 8 ∷ 9 ∷ 10 ∷ 11 ∷ 12 ∷ 13 ∷ 14 ∷ 15 ∷ 16 ∷ 17 ∷ [])

abbrev unsound : List Input
unsound =
    orders 1 jp 7 []
    ∷ orders 1 jp 7 seventeen
    ∷ orders 1 jp 7 (block 6 5 ∷ [])
    ∷ orders 1 jp 7 (block 1 1_000_000_000_000_000 ∷ [])
    ∷ orders 1 jp 7 (block 1 5 ∷ block 5 6 ∷ [])
    ∷ orders 3 jp 7 (single 1 ∷ [])
    ∷ orders 1 jp 7 (block_of Cer 1 1 ∷ [])
    ∷ orders 1 jp 7 (single 101 ∷ [])
    ∷ orders 1 nz 2 (single 1 ∷ [])
    ∷ orders 1 jp 0 (single 1 ∷ [])
    ∷ []

-- none of them is recorded, and the journal stays empty
pub unsound_orders : answers scheme_s nz_node [] unsound ≡ refused 101 ∷ refused 101 ∷ refused 102 ∷ refused 102 ∷ refused 103 ∷ refused 104 ∷ refused 105 ∷ refused 105 ∷ refused 107 ∷ refused 108 ∷ []
unfolding verdict
unsound_orders = refl

pub orders_of_closed_accounts_and_reserved_units : walk nz_node (close_2 ∷ orders 2 jp 7 (single 1 ∷ []) ∷ sixty ∷ orders 1 jp 7 (block 60 100 ∷ []) ∷ []) ≡ recorded 0 ∷ refused 104 ∷ recorded 1 ∷ refused 106 ∷ []
unfolding verdict
orders_of_closed_accounts_and_reserved_units = refl

pub accounts_are_closed_and_opened : walk nz_node (CloseAccount (number 1 (lit< tt)) ∷ close_2 ∷ close_2 ∷ open_2 ∷ OpenAccount (number 3 (lit< tt)) ∷ []) ≡ refused 112 ∷ recorded 0 ∷ refused 111 ∷ recorded 1 ∷ refused 110 ∷ []
unfolding verdict
accounts_are_closed_and_opened = refl

-- account 1 has reserved units, and then none
abbrev close_1 : Input
close_1 = CloseAccount (number 1 (lit< tt))

abbrev reserved_and_given : List Input
reserved_and_given = hundred ∷ close_1 ∷ CloseAccount (number 3 (lit< tt)) ∷ open_2 ∷ accepted_to_nz ∷ close_1 ∷ close_1 ∷ OpenAccount (number 1 (lit< tt)) ∷ []

pub accounts_of_reserved_and_given_units : walk nz_node reserved_and_given ≡ recorded 0 ∷ refused 112 ∷ refused 110 ∷ refused 111 ∷ recorded 1 ∷ recorded 2 ∷ refused 111 ∷ recorded 3 ∷ []
unfolding verdict
accounts_of_reserved_and_given_units = refl

pub acknowledgements_are_recorded_once : walk nz_node (hundred ∷ ack_0 ∷ ack_0 ∷ Ack (number 1 (lit< tt)) ∷ []) ≡ recorded 0 ∷ recorded 1 ∷ again ∷ refused 46 ∷ []
unfolding verdict
acknowledgements_are_recorded_once = refl

pub acknowledged_afterwards : (is_acknowledged (past nz_node (hundred ∷ [])) 0 ≡ false) × (is_acknowledged (past nz_node (hundred ∷ ack_0 ∷ [])) 0 ≡ true)
unfolding verdict
acknowledged_afterwards = (refl, refl)

pub full_journals_refuse_what_would_be_recorded : walk_from scheme_of_one nz_node [] (hundred ∷ open_2 ∷ close_2 ∷ CleanUp a_day_after ∷ []) ≡ recorded 0 ∷ refused 111 ∷ refused 49 ∷ refused 46 ∷ []
unfolding verdict
full_journals_refuse_what_would_be_recorded = refl

-- ---- a transfer out of it

abbrev transfer_out : List Input
transfer_out = accepted_to_nz ∷ sixty ∷ request ∷ request ∷ Request nz2 ∷ accepted_to_nz ∷ accepted_to_nz ∷ request ∷ []

pub transfers_out_end_once : walk nz_node transfer_out ≡ refused 47 ∷ recorded 0 ∷ recorded 1 ∷ again ∷ refused 115 ∷ recorded 2 ∷ again ∷ refused 116 ∷ []
unfolding verdict
transfers_out_end_once = refl

pub sent_by_a_transfer_out : sent nz_node transfer_out ≡ proposes nz_node Itl nz1 proposal.Proposed (to_jp (block 1 60 ∷ [])) ∷ asks nz_node Itl nz1 ∷ notification nz_node Itl nz1 notified.Completed ∷ []
unfolding verdict
sent_by_a_transfer_out = refl

-- a journal has a record once
pub no_record_twice : (walk nz_node (hundred ∷ accepted_to_nz ∷ hundred ∷ []) ≡ recorded 0 ∷ recorded 1 ∷ refused 105 ∷ []) × (walk nz_node (hundred ∷ hundred ∷ []) ≡ recorded 0 ∷ refused 106 ∷ [])
unfolding verdict
no_record_twice = (refl, refl)

-- ---- the log: messages refused by their first cause

abbrev proposal_of : TransactionId → List RawBlock → Message
proposal_of t blocks = proposes nz_node Itl t proposal.Proposed (to_jp blocks)

abbrev proposed : Input
proposed = comes (proposal_of nz1 (block 1 100 ∷ []))

abbrev accepted : Input
accepted = comes (notification jp_node Itl nz1 notified.Accepted)

abbrev completed : Input
completed = comes (notification nz_node Itl nz1 notified.Completed)

abbrev requested : Input
requested = comes (asks nz_node Itl nz1)

abbrev all_of_them : List RawBlock
all_of_them = block 1 100 ∷ []

abbrev au1 : TransactionId
au1 = record { code = au; number = 1; in_range = number_from 1 refl }

pub messages_are_refused_in_order : walk Itl (accepted
    ∷ comes (proposes jp_node Itl nz1 proposal.Proposed (to_jp all_of_them))
    ∷ comes (proposes nz_node jp_node nz1 proposal.Proposed (to_jp all_of_them))
    ∷ comes (proposes (Registry au) Itl au1 proposal.Proposed (to_jp all_of_them))
    ∷ proposed ∷ proposed
    ∷ comes (proposal_of nz1 (block 1 99 ∷ []))
    ∷ comes (notification jp_node Itl nz1 (notified.Terminated (204 ∷ [])))
    ∷ OpenAccount (number 1 (lit< tt)) ∷ [])
    ≡ refused 47 ∷ refused 44 ∷ refused 42 ∷ refused 43 ∷ recorded 0 ∷ again ∷ refused 45 ∷ refused 46 ∷ refused 46 ∷ []
unfolding verdict
messages_are_refused_in_order = refl

-- ---- the log: findings, the end of a transfer, clean-ups and requests

abbrev from_jp : Input
from_jp = comes (proposes jp_node Itl jp1 proposal.Proposed (terms 7 jp 7 (block_of Cer 100 101 ∷ [])))

pub findings_terminate_a_transfer : (walk Itl (from_jp ∷ from_jp ∷ []) ≡ recorded 0 ∷ again ∷ []) × (sent Itl (from_jp ∷ []) ≡ notification Itl jp_node jp1 (notified.Terminated (201 ∷ 203 ∷ 204 ∷ 206 ∷ [])) ∷ [])
unfolding verdict
findings_terminate_a_transfer = (refl, refl)

abbrev whole_transfer : List Input
whole_transfer = proposed ∷ accepted ∷ requested ∷ CleanUp a_day_after ∷ completed ∷ completed ∷ accepted ∷ Ack (number 0 (lit< tt)) ∷ Ack (number 3 (lit< tt)) ∷ []

pub a_transfer_at_the_log : walk Itl whole_transfer ≡ recorded 0 ∷ recorded 1 ∷ late ∷ again ∷ recorded 2 ∷ again ∷ again ∷ recorded 3 ∷ refused 46 ∷ []
unfolding verdict
a_transfer_at_the_log = refl

pub acknowledged_at_the_log : (is_acknowledged (past Itl whole_transfer) 0 ≡ true) × (is_acknowledged (past Itl whole_transfer) 1 ≡ false)
unfolding verdict
acknowledged_at_the_log = (refl, refl)

abbrev cleaned : List Input
cleaned = proposed ∷ CleanUp a_second_before ∷ CleanUp a_day_after ∷ accepted ∷ CleanUp (at 1_335_916_801 (lit≤ tt)) ∷ []

pub a_clean_up_cancels_after_a_day : walk Itl cleaned ≡ recorded 0 ∷ again ∷ recorded 1 ∷ late ∷ again ∷ []
unfolding verdict
a_clean_up_cancels_after_a_day = refl

pub told_of_a_clean_up : sent Itl cleaned ≡ proposes Itl jp_node nz1 proposal.Checked (to_jp all_of_them) ∷ notification Itl nz_node nz1 notified.Cancelled ∷ notification Itl jp_node nz1 notified.Cancelled ∷ []
unfolding verdict
told_of_a_clean_up = refl

-- NZ2 before NZ10, whose proposal came first

abbrev nz10 : TransactionId
nz10 = record { code = nz; number = 10; in_range = number_from 10 refl }

abbrev two_cleaned : List Input
two_cleaned = comes (proposal_of nz10 (block 1 10 ∷ [])) ∷ Received (proposal_of nz2 (block 11 20 ∷ [])) a_second_later ∷ CleanUp (at 1_335_916_801 (lit≤ tt)) ∷ []

pub a_clean_up_goes_by_code_and_number : (walk Itl two_cleaned ≡ recorded 0 ∷ recorded 1 ∷ recorded 2 ∷ [])
    × (sent Itl two_cleaned ≡ proposes Itl jp_node nz10 proposal.Checked (to_jp (block 1 10 ∷ [])) ∷ proposes Itl jp_node nz2 proposal.Checked (to_jp (block 11 20 ∷ []))
    ∷ notification Itl nz_node nz2 notified.Cancelled ∷ notification Itl jp_node nz2 notified.Cancelled
    ∷ notification Itl nz_node nz10 notified.Cancelled ∷ notification Itl jp_node nz10 notified.Cancelled ∷ [])
unfolding verdict
a_clean_up_goes_by_code_and_number = (refl, refl)

pub a_request_comes_before_its_proposal : (walk Itl (requested ∷ proposed ∷ requested ∷ Eligible nz false ∷ Eligible nz false ∷ Eligible au false ∷ []) ≡ recorded 0 ∷ late ∷ late ∷ recorded 1 ∷ again ∷ refused 114 ∷ [])
    × (sent Itl (requested ∷ []) ≡ notification Itl nz_node nz1 notified.Cancelled ∷ [])
unfolding verdict
a_request_comes_before_its_proposal = (refl, refl)
