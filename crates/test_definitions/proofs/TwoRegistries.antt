-- Transactions of two registries in one table and in one clean-up, the transfers that owe their units, and the messages
-- that are still to be acknowledged.
use Rattle.std.proofs.Common.{◌≡◌, ℕ, ◌≤◌, ◌<◌, zero, suc, Bool, true, false, List, [], ◌∷◌, ◌++◌, map, Some, None, refl, sym, true≢false, not-suc-le-zero, arith, lit≤, lit<}
use Rattle.std.specs.Ordering.{is_lt}
use Rattle.units.specs.declared.code.Node.{Node}
use Rattle.units.specs.declared.code.Node.TheVariants.{Itl}
use Rattle.status.specs.Content.{Content}
use Rattle.status.specs.Id.{id_cmp, number_from}
use Rattle.status.specs.declared.id.TransactionId.{TransactionId}
use Rattle.status.specs.declared.status.Status.TheVariants.{Cancelled}
use Rattle.wire.specs.declared.input.Input.{Input}
use Rattle.wire.specs.declared.input.Input.TheVariants.{Ack, CleanUp, Received, Request}
use Rattle.wire.specs.declared.message.Message.{Message}
use Rattle.wire.specs.declared.message.ProposalStatus.TheVariants as proposal
use Rattle.wire.specs.declared.notified.NotifiedStatus.TheVariants as notified
use Rattle.protocol.specs.declared.event.Outcome.TheVariants.{Recorded, Done}
use Rattle.protocol.specs.declared.event.WorldEvent.{WorldEvent}
use Rattle.protocol.specs.declared.event.WorldEvent.TheVariants.{Take}
use Rattle.protocol.specs.Claims.{live_of}
use Rattle.protocol.specs.History.{sends, is_acknowledged}
use Rattle.protocol.specs.Table.{ProposedTransfer, transactions, due, is_due}
use Rattle.protocol.specs.Unacknowledged.{awaits, IsLeastFrom}
use Rattle.protocol.specs.Verdict.{verdict, history}
use Rattle.protocol.specs.World.{World, opening, step, run, outcomes}
use Rattle.protocol.proofs.WorkedScheme.{nz, jp, nz_node, jp_node, block, all_units, nz1, nz2, scheme_s, at, first_of_may, a_second_before, a_day_after, propose, number, commit, post, deliver, notification}
use Rattle.test_definitions.proofs.ShortNames.{au, jp1, a_second_later, the_first_moment, terms, to_jp, proposes, comes, recorded, again, answers, moves}
use Rattle.test_definitions.proofs.ThreeRegistries.{jp_block, scheme_t}

abbrev jp2 : TransactionId
jp2 = record { code = jp; number = 2; in_range = number_from 2 refl }

abbrev jp3 : TransactionId
jp3 = record { code = jp; number = 3; in_range = number_from 3 refl }

abbrev jp12 : TransactionId
jp12 = record { code = jp; number = 12; in_range = number_from 12 refl }

abbrev nz10 : TransactionId
nz10 = record { code = nz; number = 10; in_range = number_from 10 refl }

abbrev au9 : TransactionId
au9 = record { code = au; number = 9; in_range = number_from 9 refl }

-- ---- the order of identifiers: by code, and then by number

abbrev comes_first : TransactionId → TransactionId → Bool
comes_first a b = is_lt (id_cmp a b)

pub identifiers_in_order : (comes_first jp3 jp12 ≡ true) × (comes_first jp12 jp3 ≡ false) × (comes_first jp12 nz2 ≡ true) × (comes_first nz2 jp12 ≡ false)
    × (comes_first jp3 nz10 ≡ true) × (comes_first au9 jp1 ≡ true) × (comes_first jp1 au9 ≡ false) × (comes_first nz2 nz10 ≡ true) × (comes_first nz10 nz2 ≡ false) × (comes_first nz2 nz2 ≡ false)
identifiers_in_order = (refl, refl, refl, refl, refl, refl, refl, refl, refl, refl)

-- ---- a clean-up of both registries' transactions, which came to the log in another order

abbrev of_nz : TransactionId → ℕ → Input
of_nz t n = comes (proposes nz_node Itl t proposal.Proposed (to_jp (block n n ∷ [])))

abbrev of_jp : TransactionId → ℕ → Input
of_jp t n = comes (proposes jp_node Itl t proposal.Proposed (terms 7 nz 1 (jp_block n n ∷ [])))

abbrev four : List Input
four = of_nz nz10 1 ∷ of_jp jp12 1 ∷ of_nz nz2 2 ∷ of_jp jp3 2 ∷ []

pub cleaned_up_in_order : moves scheme_t Itl four (CleanUp a_day_after)
    ≡ record { id = jp3; new = Cancelled; content = Some (terms 7 nz 1 (jp_block 2 2 ∷ [])); messages = notification Itl jp_node jp3 notified.Cancelled ∷ notification Itl nz_node jp3 notified.Cancelled ∷ [] }
    ∷ record { id = jp12; new = Cancelled; content = Some (terms 7 nz 1 (jp_block 1 1 ∷ [])); messages = notification Itl jp_node jp12 notified.Cancelled ∷ notification Itl nz_node jp12 notified.Cancelled ∷ [] }
    ∷ record { id = nz2; new = Cancelled; content = Some (to_jp (block 2 2 ∷ [])); messages = notification Itl nz_node nz2 notified.Cancelled ∷ notification Itl jp_node nz2 notified.Cancelled ∷ [] }
    ∷ record { id = nz10; new = Cancelled; content = Some (to_jp (block 1 1 ∷ [])); messages = notification Itl nz_node nz10 notified.Cancelled ∷ notification Itl jp_node nz10 notified.Cancelled ∷ [] }
    ∷ []
unfolding verdict
cleaned_up_in_order = refl

-- only those that stand Checked, each by its own age
abbrev checked_at_two_times : List Input
checked_at_two_times = Received (proposes nz_node Itl nz2 proposal.Proposed (to_jp (block 2 2 ∷ []))) a_second_later ∷ of_nz nz10 1 ∷ of_jp jp3 2 ∷ comes (notification nz_node Itl jp3 notified.Accepted) ∷ []

abbrev cleaned_up : List Input → List TransactionId
cleaned_up journal = map (λ m. m.id) (moves scheme_t Itl journal (CleanUp a_day_after))

-- a day after the second
abbrev a_day_and_a_second : Input
a_day_and_a_second = CleanUp (at 1_335_916_801 (lit≤ tt))

pub cleaned_up_by_age : (cleaned_up checked_at_two_times ≡ nz10 ∷ [])
    × (map (λ m. m.id) (moves scheme_t Itl checked_at_two_times a_day_and_a_second) ≡ nz2 ∷ nz10 ∷ [])
    × (map (λ m. m.id) (moves scheme_t Itl (checked_at_two_times ++ CleanUp a_day_after ∷ []) a_day_and_a_second) ≡ nz2 ∷ [])
    × (answers scheme_t Itl checked_at_two_times (CleanUp a_second_before ∷ CleanUp the_first_moment ∷ CleanUp first_of_may ∷ CleanUp a_day_after ∷ a_day_and_a_second ∷ []) ≡ again ∷ again ∷ again ∷ recorded 4 ∷ recorded 4 ∷ [])
    × (answers scheme_t Itl (checked_at_two_times ++ a_day_and_a_second ∷ []) (a_day_and_a_second ∷ CleanUp a_day_after ∷ []) ≡ again ∷ again ∷ [])
unfolding verdict
cleaned_up_by_age = (refl, refl, refl, refl, refl)

-- ---- a table of both registries' transactions: NZ proposes first, and each has two

abbrev four_proposals : List WorldEvent
four_proposals = propose nz 1 jp 7 (block 1 2 ∷ []) ∷ propose jp 7 nz 1 (jp_block 1 2 ∷ []) ∷ propose nz 1 jp 8 (block 3 3 ∷ []) ∷ propose jp 7 nz 2 (jp_block 3 3 ∷ []) ∷ []

abbrev after : List WorldEvent → World
after events = run (opening scheme_t) events

abbrev transfer_of : TransactionId → Content → ProposedTransfer
transfer_of t k = record { id = t; content = k }

abbrev of_jp1 : ProposedTransfer
of_jp1 = transfer_of jp1 (terms 7 nz 1 (jp_block 1 2 ∷ []))

abbrev of_jp2 : ProposedTransfer
of_jp2 = transfer_of jp2 (terms 7 nz 2 (jp_block 3 3 ∷ []))

abbrev of_nz1 : ProposedTransfer
of_nz1 = transfer_of nz1 (terms 1 jp 7 (block 1 2 ∷ []))

abbrev of_nz2 : ProposedTransfer
of_nz2 = transfer_of nz2 (terms 1 jp 8 (block 3 3 ∷ []))

pub transactions_in_order : (transactions (after four_proposals) ≡ of_jp1 ∷ of_jp2 ∷ of_nz1 ∷ of_nz2 ∷ []) × (due (after four_proposals) ≡ []) × (transactions (opening scheme_t) ≡ [])
unfolding step verdict
transactions_in_order = (refl, refl, refl)

-- requests, and proposals that others made, aren't among them
pub transactions_alone : transactions (after (four_proposals ++ Take nz_node (Request nz1) ∷ [])) ≡ of_jp1 ∷ of_jp2 ∷ of_nz1 ∷ of_nz2 ∷ []
unfolding step verdict
transactions_alone = refl

-- NZ1 is completed at NZ, then JP2 at JP, and then NZ1 at JP too
abbrev nz1_completed : List WorldEvent
nz1_completed = four_proposals ++ commit nz_node 2 ∷ post nz_node 0 ∷ deliver 0 ∷ commit Itl 1 ∷ post Itl 0 ∷ deliver 1 ∷ commit jp_node 3 ∷ post jp_node 2 ∷ deliver 2 ∷ commit Itl 1 ∷ post Itl 1 ∷ deliver 3 ∷ []

abbrev jp2_completed : List WorldEvent
jp2_completed = nz1_completed ++ post jp_node 1 ∷ deliver 4 ∷ commit Itl 1 ∷ post Itl 2 ∷ deliver 5 ∷ commit nz_node 2 ∷ post nz_node 3 ∷ deliver 6 ∷ commit Itl 1 ∷ post Itl 3 ∷ deliver 7 ∷ []

abbrev nz1_received : List WorldEvent
nz1_received = jp2_completed ++ post nz_node 2 ∷ deliver 8 ∷ commit Itl 1 ∷ post Itl 4 ∷ deliver 9 ∷ []

pub both_complete : outcomes (opening scheme_t) nz1_received
    ≡ Recorded 0 ∷ Recorded 0 ∷ Recorded 1 ∷ Recorded 1
    ∷ Done ∷ Done ∷ Recorded 0 ∷ Done ∷ Done ∷ Recorded 2 ∷ Done ∷ Done ∷ Recorded 1 ∷ Done ∷ Done ∷ Recorded 2
    ∷ Done ∷ Recorded 2 ∷ Done ∷ Done ∷ Recorded 3 ∷ Done ∷ Done ∷ Recorded 3 ∷ Done ∷ Done ∷ Recorded 3
    ∷ Done ∷ Recorded 4 ∷ Done ∷ Done ∷ Recorded 4 ∷ []
unfolding step verdict
both_complete = refl

pub due_at_first : due (after nz1_completed) ≡ of_nz1 ∷ []
unfolding step verdict
due_at_first = refl

pub due_in_order : due (after jp2_completed) ≡ of_jp2 ∷ of_nz1 ∷ []
unfolding step verdict
due_in_order = refl

pub due_no_longer : (due (after nz1_received) ≡ of_jp2 ∷ []) × (transactions (after nz1_received) ≡ of_jp1 ∷ of_jp2 ∷ of_nz1 ∷ of_nz2 ∷ [])
unfolding step verdict
due_no_longer = (refl, refl)

-- proposed alone; completed at the initiator; at both
abbrev is_due_in : World → ProposedTransfer → Bool
is_due_in w p = is_due (live_of w) p

pub due_one_by_one : (map (is_due_in (after jp2_completed)) (of_jp1 ∷ of_jp2 ∷ of_nz1 ∷ of_nz2 ∷ []) ≡ false ∷ true ∷ true ∷ false ∷ []) × (is_due_in (after nz1_received) of_nz1 ≡ false)
unfolding step verdict
due_one_by_one = (refl, refl)

-- ---- messages that are still to be acknowledged: a proposal to JP, then Cancelled to NZ and to JP

abbrev log_journal : List Input
log_journal = comes (proposes nz_node Itl nz1 proposal.Proposed (to_jp all_units)) ∷ CleanUp a_day_after ∷ []

abbrev log_sent : List Message
log_sent = sends (history scheme_s Itl log_journal)

pub sent_in_order : log_sent ≡ proposes Itl jp_node nz1 proposal.Checked (to_jp all_units) ∷ notification Itl nz_node nz1 notified.Cancelled ∷ notification Itl jp_node nz1 notified.Cancelled ∷ []
unfolding verdict
sent_in_order = refl

abbrev awaited : List Input → Node → List Bool
awaited acknowledgements peer = map (awaits log_sent (is_acknowledged (history scheme_s Itl (log_journal ++ acknowledgements))) peer) (0 ∷ 1 ∷ 2 ∷ 3 ∷ [])

pub awaits_by_peer : (awaited [] jp_node ≡ true ∷ false ∷ true ∷ false ∷ []) × (awaited [] nz_node ≡ false ∷ true ∷ false ∷ false ∷ []) × (awaited [] Itl ≡ false ∷ false ∷ false ∷ false ∷ [])
unfolding verdict
awaits_by_peer = (refl, refl, refl)

pub awaits_no_acknowledged : (awaited (Ack (number 0 (lit< tt)) ∷ []) jp_node ≡ false ∷ false ∷ true ∷ false ∷ [])
    × (awaited (Ack (number 1 (lit< tt)) ∷ []) jp_node ≡ true ∷ false ∷ true ∷ false ∷ [])
    × (awaited (Ack (number 1 (lit< tt)) ∷ []) nz_node ≡ false ∷ false ∷ false ∷ false ∷ [])
    × (awaited (Ack (number 2 (lit< tt)) ∷ Ack (number 0 (lit< tt)) ∷ []) jp_node ≡ false ∷ false ∷ false ∷ false ∷ [])
unfolding verdict
awaits_no_acknowledged = (refl, refl, refl, refl)

-- ---- the least key from one on

abbrev to_jp_and_nz : List Message
to_jp_and_nz = notification Itl jp_node nz1 notified.Completed ∷ notification Itl nz_node nz1 notified.Accepted ∷ notification Itl jp_node nz2 notified.Cancelled ∷ []

abbrev waits : ℕ → Bool
waits = awaits to_jp_and_nz (λ key. false) jp_node

none_between : (key : ℕ) → 1 ≤ key → key < 2 → waits key ≡ false
none_between zero from to = absurd (omega arith)
none_between (suc zero) from to = refl
none_between (suc (suc key)) from to = absurd (omega arith)

none_beyond : (key : ℕ) → 3 ≤ key → waits key ≡ false
none_beyond zero from = absurd (omega arith)
none_beyond (suc zero) from = refl
none_beyond (suc (suc zero)) from = absurd (omega arith)
none_beyond (suc (suc (suc key))) from = refl

-- from the first key on it is the first, from the second on the third, and then none
pub least_keys : IsLeastFrom waits 0 (Some 0) × IsLeastFrom waits 1 (Some 2) × IsLeastFrom waits 3 None
least_keys = ((lit≤ tt, refl, λ key from below. absurd (omega arith)), (lit≤ tt, refl, none_between), none_beyond)

-- and no other
pub no_other_keys : (IsLeastFrom waits 0 (Some 2) → ⊥) × (IsLeastFrom waits 0 (Some 1) → ⊥) × (IsLeastFrom waits 1 (Some 0) → ⊥) × (IsLeastFrom waits 0 None → ⊥)
no_other_keys = (λ h. true≢false (h.2 0 (lit≤ tt) (lit< tt)), λ h. true≢false (sym h.1), λ h. not-suc-le-zero h.0, λ h. true≢false (h 0 (lit≤ tt)))
