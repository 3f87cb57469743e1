-- Orders about accounts, eligibility, cancellation and acknowledgement: every cause of refusal at once, then one cause
-- less each time; and the effects of closing and opening.
use Rattle.std.proofs.Common.{◌≡◌, ℕ, true, false, List, [], ◌∷◌, ◌++◌, Some, refl, lit<}
use Rattle.units.specs.declared.code.Node.TheVariants.{Itl}
use Rattle.status.specs.declared.id.TransactionId.{TransactionId}
use Rattle.status.specs.declared.status.Status.{Status}
use Rattle.status.specs.declared.status.Status.TheVariants.{Accepted, Completed}
use Rattle.wire.specs.declared.input.Input.{Input}
use Rattle.wire.specs.declared.input.Input.TheVariants.{CloseAccount, OpenAccount, Ack, Eligible, Request}
use Rattle.wire.specs.declared.input.Number.{Number}
use Rattle.wire.specs.declared.message.ProposalStatus.TheVariants as proposal
use Rattle.wire.specs.declared.notified.NotifiedStatus.{NotifiedStatus}
use Rattle.wire.specs.declared.notified.NotifiedStatus.TheVariants as notified
use Rattle.protocol.specs.Deciding.{IsRefused}
use Rattle.protocol.specs.History.{Transition, Entry}
use Rattle.protocol.specs.Verdict.{verdict}
use Rattle.protocol.proofs.WorkedScheme.{nz, jp, nz_node, jp_node, block, all_units, nz1, nz2, scheme_s, scheme_of_one, number, notification}
use Rattle.test_definitions.proofs.ShortNames.{au, jp1, scheme_of_two, terms, proposes, comes, orders, recorded, again, refused, answers}

-- ---- accounts by their numbers

abbrev one : Number
one = number 1 (lit< tt)

abbrev two : Number
two = number 2 (lit< tt)

abbrev three : Number
three = number 3 (lit< tt)

abbrev seven : Number
seven = number 7 (lit< tt)

abbrev eight : Number
eight = number 8 (lit< tt)

abbrev nine : Number
nine = number 9 (lit< tt)

-- ---- to close: not in the scheme, closed already, in use, awaited

abbrev passed_on : TransactionId → ℕ → ℕ → Input
passed_on t to_account n = comes (proposes Itl jp_node t proposal.Checked (terms 1 jp to_account (block n n ∷ [])))

abbrev told : TransactionId → NotifiedStatus → Input
told t status = comes (notification Itl jp_node t status)

-- account 7 has a unit, and another one is on its way
abbrev used_and_awaited : List Input
used_and_awaited = passed_on nz1 7 1 ∷ told nz1 notified.Completed ∷ passed_on nz2 7 2 ∷ []

-- as if an account that isn't there were the receiver of all of it, and was closed
abbrev into_nine : TransactionId → Status → Transition
into_nine t status = record { id = t; new = status; content = Some (terms 1 jp 9 (block 1 1 ∷ [])); moment = 0; messages = [] }

abbrev never_recorded : List Entry
never_recorded = record { input = CloseAccount nine; transitions = into_nine nz2 Accepted ∷ into_nine nz1 Completed ∷ [] } ∷ []

pub close_unknown_before_closed : (verdict scheme_s jp_node never_recorded (CloseAccount nine) ≡ IsRefused 110)
    × (answers scheme_s jp_node (CloseAccount nine ∷ []) (CloseAccount nine ∷ []) ≡ refused 110 ∷ [])
    × (answers scheme_s jp_node [] (CloseAccount nine ∷ []) ≡ refused 110 ∷ [])
unfolding verdict
close_unknown_before_closed = (refl, refl, refl)

pub close_closed_before_used : answers scheme_s jp_node (used_and_awaited ++ CloseAccount seven ∷ []) (CloseAccount seven ∷ []) ≡ refused 111 ∷ []
unfolding verdict
close_closed_before_used = refl

pub close_used_before_awaited : answers scheme_s jp_node used_and_awaited (CloseAccount seven ∷ CloseAccount eight ∷ []) ≡ refused 112 ∷ recorded 3 ∷ []
unfolding verdict
close_used_before_awaited = refl

pub close_awaited : answers scheme_s jp_node (passed_on nz1 7 1 ∷ []) (CloseAccount seven ∷ []) ≡ refused 113 ∷ []
unfolding verdict
close_awaited = refl

-- the account that is awaited is the one that the units go to, and no other
pub close_another_than_awaited : answers scheme_s jp_node (passed_on nz1 7 1 ∷ []) (CloseAccount eight ∷ []) ≡ recorded 1 ∷ []
unfolding verdict
close_another_than_awaited = refl

-- only while the transfer stands Accepted
pub close_no_longer_awaited : (answers scheme_s jp_node (passed_on nz1 7 1 ∷ told nz1 notified.Cancelled ∷ []) (CloseAccount seven ∷ []) ≡ recorded 2 ∷ [])
    × (answers scheme_s jp_node (passed_on nz1 7 1 ∷ told nz1 notified.Completed ∷ []) (CloseAccount seven ∷ []) ≡ refused 112 ∷ [])
    × (answers scheme_s jp_node (passed_on nz1 9 1 ∷ []) (CloseAccount seven ∷ []) ≡ recorded 1 ∷ [])
    × (answers scheme_s jp_node (passed_on nz1 7 1 ∷ told nz1 notified.Cancelled ∷ passed_on nz2 7 2 ∷ []) (CloseAccount seven ∷ []) ≡ refused 113 ∷ [])
unfolding verdict
close_no_longer_awaited = (refl, refl, refl, refl)

-- reserved units are held, and those that left are not
pub close_used : (answers scheme_s nz_node [] (CloseAccount one ∷ CloseAccount two ∷ []) ≡ refused 112 ∷ recorded 0 ∷ [])
    × (answers scheme_s nz_node (orders 1 jp 7 all_units ∷ []) (CloseAccount one ∷ []) ≡ refused 112 ∷ [])
    × (answers scheme_s nz_node (orders 1 jp 7 all_units ∷ comes (notification Itl nz_node nz1 notified.Accepted) ∷ []) (CloseAccount one ∷ []) ≡ recorded 2 ∷ [])
    × (answers scheme_s nz_node (orders 1 jp 7 (block 1 99 ∷ []) ∷ comes (notification Itl nz_node nz1 notified.Accepted) ∷ []) (CloseAccount one ∷ []) ≡ refused 112 ∷ [])
unfolding verdict
close_used = (refl, refl, refl, refl)

pub close_where_full : answers scheme_of_one jp_node (passed_on nz1 7 1 ∷ []) (CloseAccount nine ∷ CloseAccount seven ∷ CloseAccount eight ∷ []) ≡ refused 110 ∷ refused 113 ∷ refused 49 ∷ []
unfolding verdict
close_where_full = refl

-- ---- to open: not in the scheme, open already

pub open_unknown_before_open : (answers scheme_s nz_node [] (OpenAccount three ∷ OpenAccount two ∷ []) ≡ refused 110 ∷ refused 111 ∷ [])
    × (answers scheme_s nz_node (CloseAccount three ∷ CloseAccount two ∷ []) (OpenAccount three ∷ OpenAccount two ∷ OpenAccount one ∷ []) ≡ refused 110 ∷ recorded 2 ∷ refused 111 ∷ [])
    × (answers scheme_of_one nz_node (CloseAccount two ∷ []) (OpenAccount three ∷ OpenAccount one ∷ OpenAccount two ∷ []) ≡ refused 110 ∷ refused 111 ∷ refused 49 ∷ [])
unfolding verdict
open_unknown_before_open = (refl, refl, refl)

-- ---- after closing, and after opening again

abbrev closed : List Input
closed = CloseAccount two ∷ []

abbrev reopened : List Input
reopened = closed ++ OpenAccount two ∷ []

pub account_reopened : answers scheme_s nz_node reopened (OpenAccount two ∷ CloseAccount two ∷ []) ≡ refused 111 ∷ recorded 2 ∷ []
unfolding verdict
account_reopened = refl

pub account_closed_again : answers scheme_s nz_node (reopened ++ CloseAccount two ∷ []) (CloseAccount two ∷ OpenAccount two ∷ []) ≡ refused 111 ∷ recorded 3 ∷ []
unfolding verdict
account_closed_again = refl

-- an order from it: the account is closed; open, and without the unit
pub order_from_reopened : (answers scheme_s nz_node closed (orders 2 jp 7 (block 1 1 ∷ []) ∷ orders 1 jp 7 (block 1 1 ∷ []) ∷ []) ≡ refused 104 ∷ recorded 1 ∷ [])
    × (answers scheme_s nz_node reopened (orders 2 jp 7 (block 1 1 ∷ []) ∷ []) ≡ refused 105 ∷ [])
unfolding verdict
order_from_reopened = (refl, refl)

-- a transfer into it is accepted, and then it is awaited
pub transfer_into_reopened : (answers scheme_s jp_node (CloseAccount eight ∷ OpenAccount eight ∷ passed_on nz1 8 1 ∷ []) (told nz1 notified.Completed ∷ CloseAccount eight ∷ []) ≡ recorded 3 ∷ refused 113 ∷ [])
    × (answers scheme_s jp_node (CloseAccount eight ∷ passed_on nz1 8 1 ∷ []) (told nz1 notified.Completed ∷ OpenAccount eight ∷ []) ≡ refused 46 ∷ recorded 2 ∷ [])
    × (answers scheme_s jp_node (CloseAccount eight ∷ passed_on nz1 7 1 ∷ []) (told nz1 notified.Completed ∷ []) ≡ recorded 2 ∷ [])
unfolding verdict
transfer_into_reopened = (refl, refl, refl)

-- ---- eligibility: not in the scheme, then so already

pub eligible_unknown_before_so : answers scheme_of_one Itl [] (Eligible au true ∷ Eligible au false ∷ Eligible jp true ∷ Eligible jp false ∷ []) ≡ refused 114 ∷ refused 114 ∷ again ∷ recorded 0 ∷ []
unfolding verdict
eligible_unknown_before_so = refl

pub eligible_where_full : answers scheme_of_one Itl (Eligible jp false ∷ []) (Eligible au true ∷ Eligible au false ∷ Eligible jp false ∷ Eligible jp true ∷ Eligible nz true ∷ Eligible nz false ∷ [])
    ≡ refused 114 ∷ refused 114 ∷ again ∷ refused 49 ∷ again ∷ refused 49 ∷ []
unfolding verdict
eligible_where_full = refl

pub eligible_by_the_last_order : answers scheme_s Itl (Eligible jp false ∷ Eligible jp true ∷ []) (Eligible jp true ∷ Eligible jp false ∷ []) ≡ again ∷ recorded 2 ∷ []
unfolding verdict
eligible_by_the_last_order = refl

-- ---- to ask for cancellation: not proposed here, no longer proposed

-- JP knows NZ1 as Accepted, and it stands no longer as it was proposed
pub request_unknown_before_ended : (answers scheme_s jp_node (passed_on nz1 7 1 ∷ []) (Request nz1 ∷ Request jp1 ∷ []) ≡ refused 115 ∷ refused 115 ∷ [])
    × (answers scheme_s nz_node [] (Request nz1 ∷ []) ≡ refused 115 ∷ [])
    × (answers scheme_s nz_node (orders 1 jp 7 all_units ∷ comes (notification Itl nz_node nz1 notified.Accepted) ∷ []) (Request nz1 ∷ Request nz2 ∷ []) ≡ refused 116 ∷ refused 115 ∷ [])
    × (answers scheme_of_one nz_node (orders 1 jp 7 all_units ∷ []) (Request nz2 ∷ Request nz1 ∷ []) ≡ refused 115 ∷ refused 49 ∷ [])
unfolding verdict
request_unknown_before_ended = (refl, refl, refl, refl)

-- ---- acknowledgements of keys that a node has, and doesn't have

pub keys_of_a_registry : (answers scheme_s nz_node [] (Ack (number 0 (lit< tt)) ∷ []) ≡ refused 46 ∷ [])
    × (answers scheme_s nz_node (orders 1 jp 7 all_units ∷ []) (Ack (number 0 (lit< tt)) ∷ Ack one ∷ []) ≡ recorded 1 ∷ refused 46 ∷ [])
    × (answers scheme_s nz_node (orders 1 jp 7 all_units ∷ Ack (number 0 (lit< tt)) ∷ []) (Ack (number 0 (lit< tt)) ∷ Ack one ∷ []) ≡ again ∷ refused 46 ∷ [])
    × (answers scheme_s nz_node (orders 1 jp 7 all_units ∷ Request nz1 ∷ Ack one ∷ []) (Ack (number 0 (lit< tt)) ∷ Ack one ∷ Ack two ∷ []) ≡ recorded 3 ∷ again ∷ refused 46 ∷ [])
unfolding verdict
keys_of_a_registry = (refl, refl, refl, refl)

abbrev at_log : List Input
at_log = comes (proposes nz_node Itl nz1 proposal.Proposed (terms 1 jp 7 all_units)) ∷ []

pub keys_of_the_log : (answers scheme_s Itl at_log (Ack (number 0 (lit< tt)) ∷ Ack one ∷ []) ≡ recorded 1 ∷ refused 46 ∷ [])
    × (answers scheme_of_one Itl at_log (Ack (number 0 (lit< tt)) ∷ Ack one ∷ []) ≡ refused 49 ∷ refused 46 ∷ [])
    × (answers scheme_of_two Itl (at_log ++ Ack (number 0 (lit< tt)) ∷ []) (Ack (number 0 (lit< tt)) ∷ Ack one ∷ []) ≡ again ∷ refused 46 ∷ [])
unfolding verdict
keys_of_the_log = (refl, refl, refl)

-- ---- orders of registries at the log

pub orders_of_registries : answers scheme_s Itl [] (orders 1 jp 7 all_units ∷ Request nz1 ∷ OpenAccount one ∷ CloseAccount two ∷ []) ≡ refused 46 ∷ refused 46 ∷ refused 46 ∷ refused 46 ∷ []
unfolding verdict
orders_of_registries = refl
