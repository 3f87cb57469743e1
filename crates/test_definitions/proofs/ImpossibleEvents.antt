-- Events that aren't possible, one by one, beside those that are; and that they, like refusals, change nothing.
use Rattle.std.proofs.Common.{◌≡◌, true, false, List, [], ◌∷◌, ◌++◌, refl, lit<}
use Rattle.std.specs.Prelude.{take}
use Rattle.units.specs.declared.code.Node.{Node}
use Rattle.units.specs.declared.code.Node.TheVariants.{Itl, Registry}
use Rattle.status.specs.declared.id.TransactionId.{TransactionId}
use Rattle.wire.specs.declared.input.Input.{Input}
use Rattle.wire.specs.declared.input.Input.TheVariants.{OpenAccount, CloseAccount, CleanUp, Eligible, Request}
use Rattle.wire.specs.declared.message.Message.{Message}
use Rattle.wire.specs.declared.message.ProposalStatus.TheVariants as proposal
use Rattle.wire.specs.declared.notified.NotifiedStatus.TheVariants as notified
use Rattle.protocol.specs.declared.event.Outcome.TheVariants.{Recorded, Repeat, Late, Refused, Done, NotPossible}
use Rattle.protocol.specs.declared.event.Posted.{Posted}
use Rattle.protocol.specs.declared.event.WorldEvent.{WorldEvent}
use Rattle.protocol.specs.declared.event.WorldEvent.TheVariants.{Take}
use Rattle.protocol.specs.Verdict.{verdict}
use Rattle.protocol.specs.World.{Station, opening, step, run, outcomes}
use Rattle.protocol.proofs.WorkedScheme.{nz, jp, nz_node, jp_node, block, all_units, nz1, scheme_s, first_of_may, a_day_after, propose, number, open_account, close_account, ack, clean_up, eligible, commit, post, deliver, crash, restart, transfer, after, notification}
use Rattle.test_definitions.proofs.ShortNames.{au, to_jp, proposes, comes, orders}

abbrev request : Node → TransactionId → WorldEvent
request n t = Take n (Request t)

abbrev ack_0 : Node → WorldEvent
ack_0 n = ack n (number 0 (lit< tt))

abbrev ack_1 : Node → WorldEvent
ack_1 n = ack n (number 1 (lit< tt))

-- ---- a node that isn't there

pub no_such_node : outcomes (opening scheme_s) (propose au 1 jp 7 (block 1 1 ∷ []) ∷ close_account au (number 1 (lit< tt)) ∷ open_account au (number 1 (lit< tt)) ∷ request (Registry au) nz1
    ∷ commit (Registry au) 0 ∷ post (Registry au) 0 ∷ crash (Registry au) 0 ∷ restart (Registry au) ∷ [])
    ≡ NotPossible ∷ NotPossible ∷ NotPossible ∷ NotPossible ∷ NotPossible ∷ NotPossible ∷ NotPossible ∷ NotPossible ∷ []
unfolding step verdict
no_such_node = refl

-- ---- inputs that the other kind of node has

pub propose_at_log : outcomes (opening scheme_s) (Take Itl (orders 1 jp 7 (block 1 1 ∷ [])) ∷ []) ≡ NotPossible ∷ []
unfolding step verdict
propose_at_log = refl

pub request_at_log : outcomes (opening scheme_s) (request Itl nz1 ∷ []) ≡ NotPossible ∷ []
unfolding step verdict
request_at_log = refl

pub open_at_log : outcomes (opening scheme_s) (Take Itl (OpenAccount (number 7 (lit< tt))) ∷ []) ≡ NotPossible ∷ []
unfolding step verdict
open_at_log = refl

pub close_at_log : outcomes (opening scheme_s) (Take Itl (CloseAccount (number 7 (lit< tt))) ∷ []) ≡ NotPossible ∷ []
unfolding step verdict
close_at_log = refl

pub clean_up_at_registry : outcomes (opening scheme_s) (Take nz_node (CleanUp first_of_may) ∷ clean_up first_of_may ∷ []) ≡ NotPossible ∷ Repeat ∷ []
unfolding step verdict
clean_up_at_registry = refl

pub eligible_at_registry : outcomes (opening scheme_s) (Take nz_node (Eligible jp false) ∷ Take nz_node (Eligible jp true) ∷ eligible jp false ∷ []) ≡ NotPossible ∷ NotPossible ∷ Recorded 0 ∷ []
unfolding step verdict
eligible_at_registry = refl

-- ---- a message comes from the bag alone

abbrev first_proposal : Message
first_proposal = proposes nz_node Itl nz1 proposal.Proposed (to_jp all_units)

pub message_that_nobody_sent : outcomes (opening scheme_s) (Take Itl (comes first_proposal) ∷ Take nz_node (comes first_proposal) ∷ Take jp_node (comes (notification Itl jp_node nz1 notified.Cancelled)) ∷ deliver 0 ∷ [])
    ≡ NotPossible ∷ NotPossible ∷ NotPossible ∷ NotPossible ∷ []
unfolding step verdict
message_that_nobody_sent = refl

-- one that is in the bag is delivered, and isn't taken as an order
pub message_of_the_bag : outcomes (opening scheme_s) (take 3 transfer ++ Take Itl (comes first_proposal) ∷ deliver 1 ∷ deliver 0 ∷ deliver 0 ∷ [])
    ≡ Recorded 0 ∷ Done ∷ Done ∷ NotPossible ∷ NotPossible ∷ Recorded 0 ∷ Repeat ∷ []
unfolding step verdict
message_of_the_bag = refl

-- ---- keys

pub post_what_is_committed : outcomes (opening scheme_s) (propose nz 1 jp 7 (block 1 1 ∷ []) ∷ propose nz 1 jp 7 (block 2 2 ∷ []) ∷ post nz_node 0 ∷ commit nz_node 1 ∷ post nz_node 1 ∷ post nz_node 0 ∷ post nz_node 0
    ∷ post jp_node 0 ∷ post Itl 0 ∷ deliver 0 ∷ deliver 1 ∷ deliver 2 ∷ commit nz_node 1 ∷ post nz_node 1 ∷ post nz_node 2 ∷ deliver 2 ∷ [])
    ≡ Recorded 0 ∷ Recorded 1 ∷ NotPossible ∷ Done ∷ NotPossible ∷ Done ∷ Done ∷ NotPossible ∷ NotPossible ∷ Recorded 0 ∷ Repeat ∷ NotPossible ∷ Done ∷ Done ∷ NotPossible ∷ Recorded 1 ∷ []
unfolding step verdict
post_what_is_committed = refl

-- committed, and not posted; posted by NZ alone
pub ack_before_post : outcomes (opening scheme_s) (take 2 transfer ++ ack_0 nz_node ∷ []) ≡ Recorded 0 ∷ Done ∷ NotPossible ∷ []
unfolding step verdict
ack_before_post = refl

pub ack_of_another_node : outcomes (opening scheme_s) (take 4 transfer ++ commit Itl 1 ∷ ack_0 Itl ∷ ack_0 jp_node ∷ ack_1 nz_node ∷ ack_0 nz_node ∷ ack_0 nz_node ∷ post Itl 0 ∷ ack_0 Itl ∷ ack_0 (Registry au) ∷ [])
    ≡ Recorded 0 ∷ Done ∷ Done ∷ Recorded 0 ∷ Done ∷ NotPossible ∷ NotPossible ∷ NotPossible ∷ Recorded 1 ∷ Repeat ∷ Done ∷ Recorded 1 ∷ NotPossible ∷ []
unfolding step verdict
ack_of_another_node = refl

pub post_what_is_acknowledged : outcomes (opening scheme_s) (take 3 transfer ++ ack_0 nz_node ∷ post nz_node 0 ∷ commit nz_node 1 ∷ post nz_node 0 ∷ deliver 2 ∷ deliver 3 ∷ []) ≡ Recorded 0 ∷ Done ∷ Done ∷ Recorded 1 ∷ Done ∷ Done ∷ Done ∷ Recorded 0 ∷ NotPossible ∷ []
unfolding step verdict
post_what_is_acknowledged = refl

-- ---- counts

pub commit_counts : outcomes (opening scheme_s) (commit nz_node 0 ∷ commit nz_node 1 ∷ propose nz 1 jp 7 (block 1 1 ∷ []) ∷ propose nz 1 jp 7 (block 2 2 ∷ []) ∷ commit nz_node 3 ∷ commit nz_node 0 ∷ commit nz_node 1 ∷ commit nz_node 2 ∷ commit nz_node 1 ∷ commit nz_node 1 ∷ commit nz_node 0 ∷ commit jp_node 1 ∷ [])
    ≡ Done ∷ NotPossible ∷ Recorded 0 ∷ Recorded 1 ∷ NotPossible ∷ Done ∷ Done ∷ NotPossible ∷ Done ∷ NotPossible ∷ Done ∷ NotPossible ∷ []
unfolding step verdict
commit_counts = refl

-- ---- a stopped node does nothing, and the others go on

-- NZ, JP and the log have each posted a message
abbrev half_way : List WorldEvent
half_way = take 9 transfer

abbrev after_half_way : List WorldEvent → List WorldEvent
after_half_way events = half_way ++ deliver 2 ∷ commit Itl 1 ∷ post Itl 1 ∷ events

pub stopped_registry : outcomes (after (after_half_way [])) (crash nz_node 0 ∷ propose nz 1 jp 7 (block 1 1 ∷ []) ∷ close_account nz (number 2 (lit< tt)) ∷ open_account nz (number 2 (lit< tt)) ∷ request nz_node nz1 ∷ ack_0 nz_node
    ∷ commit nz_node 0 ∷ post nz_node 0 ∷ deliver 3 ∷ crash nz_node 0 ∷ Take nz_node (CleanUp first_of_may) ∷ restart nz_node ∷ restart nz_node ∷ [])
    ≡ Done ∷ NotPossible ∷ NotPossible ∷ NotPossible ∷ NotPossible ∷ NotPossible
    ∷ NotPossible ∷ NotPossible ∷ NotPossible ∷ NotPossible ∷ NotPossible ∷ Done ∷ NotPossible ∷ []
unfolding step verdict
stopped_registry = refl

-- the same events once it runs again
pub running_registry : outcomes (after (after_half_way (crash nz_node 0 ∷ restart nz_node ∷ []))) (propose nz 1 jp 7 (block 1 1 ∷ []) ∷ open_account nz (number 2 (lit< tt)) ∷ request nz_node nz1 ∷ ack_0 nz_node
    ∷ close_account nz (number 2 (lit< tt)) ∷ commit nz_node 0 ∷ post nz_node 0 ∷ deliver 3 ∷ crash nz_node 0 ∷ [])
    ≡ Refused 106 ∷ Refused 111 ∷ Recorded 1 ∷ Recorded 2 ∷ Recorded 3 ∷ Done ∷ Done ∷ Recorded 4 ∷ Done ∷ []
unfolding step verdict
running_registry = refl

pub stopped_log : outcomes (after half_way) (crash Itl 0 ∷ clean_up a_day_after ∷ eligible jp false ∷ eligible jp true ∷ ack_0 Itl ∷ commit Itl 0 ∷ post Itl 0 ∷ deliver 2 ∷ deliver 0 ∷ crash Itl 0
    ∷ request nz_node nz1 ∷ deliver 1 ∷ restart Itl ∷ restart jp_node ∷ [])
    ≡ Done ∷ NotPossible ∷ NotPossible ∷ NotPossible ∷ NotPossible ∷ NotPossible ∷ NotPossible ∷ NotPossible ∷ NotPossible ∷ NotPossible
    ∷ Recorded 1 ∷ Repeat ∷ Done ∷ NotPossible ∷ []
unfolding step verdict
stopped_log = refl

pub running_log : outcomes (after (half_way ++ crash Itl 0 ∷ restart Itl ∷ [])) (deliver 0 ∷ eligible jp true ∷ eligible jp false ∷ ack_0 Itl ∷ commit Itl 0 ∷ post Itl 0 ∷ deliver 2 ∷ clean_up a_day_after ∷ [])
    ≡ Repeat ∷ Repeat ∷ Recorded 1 ∷ Recorded 2 ∷ Done ∷ Done ∷ Recorded 3 ∷ Repeat ∷ []
unfolding step verdict
running_log = refl

-- ---- what isn't possible, and what is refused, a repeat or late, leaves the world as it is

abbrev has : Node → (committed tail : List Input) → Station
has n committed tail = record { node = n; committed = committed; tail = tail; runs = true }

abbrev passed_on : Message
passed_on = proposes Itl jp_node nz1 proposal.Checked (to_jp all_units)

abbrev stations_with : List Input → List Station
stations_with log_tail = has Itl (comes first_proposal ∷ []) log_tail ∷ has jp_node (comes passed_on ∷ []) [] ∷ has nz_node (orders 1 jp 7 all_units ∷ []) [] ∷ []

abbrev three_posted : List Posted
three_posted = record { node = nz_node; key = 0; message = first_proposal } ∷ record { node = Itl; key = 0; message = passed_on } ∷ record { node = jp_node; key = 0; message = notification jp_node Itl nz1 notified.Accepted } ∷ []

pub world_half_way : ((after half_way).stations ≡ stations_with []) × ((after half_way).bag ≡ three_posted)
unfolding step verdict
world_half_way = (refl, refl)

abbrev not_possible : List WorldEvent
not_possible = Take Itl (comes first_proposal) ∷ Take Itl (CloseAccount (number 7 (lit< tt))) ∷ ack_1 jp_node ∷ post jp_node 1 ∷ commit jp_node 1 ∷ crash jp_node 1 ∷ restart jp_node ∷ deliver 3 ∷ commit (Registry au) 0 ∷ []

pub not_possible_changes_nothing : (outcomes (after half_way) not_possible ≡ NotPossible ∷ NotPossible ∷ NotPossible ∷ NotPossible ∷ NotPossible ∷ NotPossible ∷ NotPossible ∷ NotPossible ∷ NotPossible ∷ [])
    × ((run (after half_way) not_possible).stations ≡ stations_with [])
    × ((run (after half_way) not_possible).bag ≡ three_posted)
unfolding step verdict
not_possible_changes_nothing = (refl, refl, refl)

abbrev in_vain : List WorldEvent
in_vain = propose nz 1 jp 7 (block 1 1 ∷ []) ∷ close_account jp (number 7 (lit< tt)) ∷ eligible au true ∷ eligible jp true ∷ deliver 0 ∷ deliver 1 ∷ []

pub refusals_change_nothing : (outcomes (after half_way) in_vain ≡ Refused 106 ∷ Refused 113 ∷ Refused 114 ∷ Repeat ∷ Repeat ∷ Repeat ∷ [])
    × ((run (after half_way) in_vain).stations ≡ stations_with [])
    × ((run (after half_way) in_vain).bag ≡ three_posted)
unfolding step verdict
refusals_change_nothing = (refl, refl, refl)

abbrev late_events : List WorldEvent
late_events = half_way ++ clean_up a_day_after ∷ deliver 2 ∷ []

pub late_changes_nothing : (outcomes (after half_way) (clean_up a_day_after ∷ deliver 2 ∷ []) ≡ Recorded 1 ∷ Late ∷ [])
    × ((after late_events).stations ≡ stations_with (CleanUp a_day_after ∷ []))
    × ((after late_events).bag ≡ three_posted)
unfolding step verdict
late_changes_nothing = (refl, refl, refl)
