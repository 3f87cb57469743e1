-- Clean-ups, and messages that come after one.
use Rattle.std.proofs.Common.{◌≡◌, true, false, List, [], ◌∷◌, ◌++◌, Some, None, refl}
use Rattle.std.specs.Prelude.{take, drop}
use Rattle.units.specs.declared.code.Node.TheVariants.{Itl}
use Rattle.status.specs.declared.status.Status.TheVariants.{Proposed, Rejected, Cancelled, Completed}
use Rattle.wire.specs.declared.notified.NotifiedStatus.TheVariants as notified
use Rattle.protocol.specs.declared.event.Outcome.TheVariants.{Recorded, Repeat, Late, Done}
use Rattle.protocol.specs.declared.event.WorldEvent.{WorldEvent}
use Rattle.protocol.specs.Verdict.{verdict}
use Rattle.protocol.specs.World.{World, opening, step, outcomes}
use Rattle.protocol.proofs.WorkedScheme.{nz, jp, nz_node, jp_node, all_units, nz1, nz2, scheme_s, a_second_before, a_day_after, ten_days_after, propose, clean_up, commit, post, deliver, transfer, after, status, holds, spendable, reserved, position, in_account, owed, message_at, notification, posted, held_units, spendable_units, owed_units}

-- ---- a transfer has expired a day after it was checked, to the second

abbrev clean_up_boundary_events : List WorldEvent
clean_up_boundary_events = take 5 transfer ++ clean_up a_second_before ∷ clean_up a_day_after ∷ commit Itl 1 ∷ []

abbrev clean_up_boundary_world : World
clean_up_boundary_world = after clean_up_boundary_events

pub clean_up_boundary : outcomes (opening scheme_s) clean_up_boundary_events
    ≡ Recorded 0 ∷ Done ∷ Done ∷ Recorded 0 ∷ Done ∷ Repeat ∷ Recorded 1 ∷ Done ∷ []
unfolding step verdict
clean_up_boundary = refl

pub clean_up_boundary_messages : (message_at clean_up_boundary_world Itl 1 ≡ Some (notification Itl nz_node nz1 notified.Cancelled))
    × (message_at clean_up_boundary_world Itl 2 ≡ Some (notification Itl jp_node nz1 notified.Cancelled))
    × (message_at clean_up_boundary_world Itl 3 ≡ None)
unfolding step verdict
clean_up_boundary_messages = (refl, refl, refl)

pub clean_up_boundary_statuses : (status clean_up_boundary_world nz_node nz1 ≡ Some Proposed)
    × (status clean_up_boundary_world Itl nz1 ≡ Some Cancelled)
    × (status clean_up_boundary_world jp_node nz1 ≡ None)
unfolding step verdict
clean_up_boundary_statuses = (refl, refl, refl)

-- ---- one that is accepted does not expire

abbrev clean_up_after_accepted_events : List WorldEvent
clean_up_after_accepted_events = take 11 transfer ++ clean_up ten_days_after ∷ drop 11 transfer

abbrev clean_up_after_accepted_world : World
clean_up_after_accepted_world = after clean_up_after_accepted_events

pub clean_up_after_accepted : outcomes (opening scheme_s) clean_up_after_accepted_events
    ≡ Recorded 0 ∷ Done ∷ Done ∷ Recorded 0 ∷ Done ∷ Done ∷ Recorded 0 ∷ Done ∷ Done ∷ Recorded 1 ∷ Done
    ∷ Repeat
    ∷ Done ∷ Recorded 1 ∷ Done ∷ Done ∷ Recorded 2 ∷ Done ∷ Done ∷ Recorded 1 ∷ Done ∷ []
unfolding step verdict
clean_up_after_accepted = refl

pub clean_up_after_accepted_statuses : (status clean_up_after_accepted_world nz_node nz1 ≡ Some Completed)
    × (status clean_up_after_accepted_world Itl nz1 ≡ Some Completed)
    × (status clean_up_after_accepted_world jp_node nz1 ≡ Some Completed)
unfolding step verdict
clean_up_after_accepted_statuses = (refl, refl, refl)

pub clean_up_after_accepted_at_jp : (holds clean_up_after_accepted_world jp 1 ≡ true)
    × (holds clean_up_after_accepted_world jp 100 ≡ true)
    × (holds clean_up_after_accepted_world jp 101 ≡ false)
    × (spendable clean_up_after_accepted_world jp 1 ≡ true)
    × (spendable clean_up_after_accepted_world jp 100 ≡ true)
    × (reserved clean_up_after_accepted_world jp 1 ≡ false)
    × (reserved clean_up_after_accepted_world jp 100 ≡ false)
    × (position clean_up_after_accepted_world jp 1 ≡ in_account 7)
    × (position clean_up_after_accepted_world jp 100 ≡ in_account 7)
unfolding step verdict
clean_up_after_accepted_at_jp = (refl, refl, refl, refl, refl, refl, refl, refl, refl)

pub clean_up_after_accepted_at_nz : (holds clean_up_after_accepted_world nz 1 ≡ false)
    × (holds clean_up_after_accepted_world nz 100 ≡ false)
    × (spendable clean_up_after_accepted_world nz 1 ≡ false)
    × (spendable clean_up_after_accepted_world nz 100 ≡ false)
unfolding step verdict
clean_up_after_accepted_at_nz = (refl, refl, refl, refl)

pub clean_up_after_accepted_owed : (owed clean_up_after_accepted_world 1 ≡ 0)
    × (owed clean_up_after_accepted_world 100 ≡ 0)
    × (owed clean_up_after_accepted_world 101 ≡ 0)
unfolding step verdict
clean_up_after_accepted_owed = (refl, refl, refl)

pub clean_up_after_accepted_sums : (held_units clean_up_after_accepted_world jp ≡ 100)
    × (spendable_units clean_up_after_accepted_world jp ≡ 100)
    × (held_units clean_up_after_accepted_world nz ≡ 0)
    × (spendable_units clean_up_after_accepted_world nz ≡ 0)
    × (owed_units clean_up_after_accepted_world ≡ 0)
unfolding step verdict
clean_up_after_accepted_sums = (refl, refl, refl, refl, refl)

-- ---- JP hears of the cancellation before the proposal

abbrev cancelled_before_the_proposal_events : List WorldEvent
cancelled_before_the_proposal_events = take 6 transfer ++ clean_up a_day_after ∷ commit Itl 1 ∷ post Itl 2 ∷ deliver 2 ∷ deliver 1 ∷ []

abbrev cancelled_before_the_proposal_world : World
cancelled_before_the_proposal_world = after cancelled_before_the_proposal_events

pub cancelled_before_the_proposal : outcomes (opening scheme_s) cancelled_before_the_proposal_events
    ≡ Recorded 0 ∷ Done ∷ Done ∷ Recorded 0 ∷ Done ∷ Done
    ∷ Recorded 1 ∷ Done ∷ Done ∷ Recorded 0 ∷ Late ∷ []
unfolding step verdict
cancelled_before_the_proposal = refl

pub cancelled_before_the_proposal_statuses : (status cancelled_before_the_proposal_world nz_node nz1 ≡ Some Proposed)
    × (status cancelled_before_the_proposal_world Itl nz1 ≡ Some Cancelled)
    × (status cancelled_before_the_proposal_world jp_node nz1 ≡ Some Cancelled)
unfolding step verdict
cancelled_before_the_proposal_statuses = (refl, refl, refl)

pub cancelled_before_the_proposal_at_nz : (holds cancelled_before_the_proposal_world nz 1 ≡ true)
    × (holds cancelled_before_the_proposal_world nz 100 ≡ true)
    × (spendable cancelled_before_the_proposal_world nz 1 ≡ false)
    × (spendable cancelled_before_the_proposal_world nz 100 ≡ false)
    × (reserved cancelled_before_the_proposal_world nz 1 ≡ true)
    × (reserved cancelled_before_the_proposal_world nz 100 ≡ true)
unfolding step verdict
cancelled_before_the_proposal_at_nz = (refl, refl, refl, refl, refl, refl)

pub cancelled_before_the_proposal_sums : (held_units cancelled_before_the_proposal_world jp ≡ 0)
    × (spendable_units cancelled_before_the_proposal_world jp ≡ 0)
    × (held_units cancelled_before_the_proposal_world nz ≡ 100)
    × (spendable_units cancelled_before_the_proposal_world nz ≡ 0)
    × (owed_units cancelled_before_the_proposal_world ≡ 0)
unfolding step verdict
cancelled_before_the_proposal_sums = (refl, refl, refl, refl, refl)

-- ---- the log cancels before it hears of the acceptance

abbrev cancelled_before_the_answer_events : List WorldEvent
cancelled_before_the_answer_events = take 9 transfer ++ clean_up a_day_after ∷ commit Itl 1 ∷ deliver 2 ∷ post Itl 1 ∷ post Itl 2 ∷ deliver 3 ∷ deliver 4 ∷ []

abbrev cancelled_before_the_answer_world : World
cancelled_before_the_answer_world = after cancelled_before_the_answer_events

pub cancelled_before_the_answer : outcomes (opening scheme_s) cancelled_before_the_answer_events
    ≡ Recorded 0 ∷ Done ∷ Done ∷ Recorded 0 ∷ Done ∷ Done ∷ Recorded 0 ∷ Done ∷ Done
    ∷ Recorded 1 ∷ Done ∷ Late ∷ Done ∷ Done ∷ Recorded 1 ∷ Recorded 1 ∷ []
unfolding step verdict
cancelled_before_the_answer = refl

pub cancelled_before_the_answer_statuses : (status cancelled_before_the_answer_world nz_node nz1 ≡ Some Cancelled)
    × (status cancelled_before_the_answer_world Itl nz1 ≡ Some Cancelled)
    × (status cancelled_before_the_answer_world jp_node nz1 ≡ Some Cancelled)
unfolding step verdict
cancelled_before_the_answer_statuses = (refl, refl, refl)

pub cancelled_before_the_answer_held : (spendable cancelled_before_the_answer_world nz 1 ≡ true)
    × (spendable cancelled_before_the_answer_world nz 100 ≡ true)
    × (position cancelled_before_the_answer_world nz 1 ≡ in_account 1)
    × (position cancelled_before_the_answer_world nz 100 ≡ in_account 1)
    × (holds cancelled_before_the_answer_world jp 1 ≡ false)
    × (holds cancelled_before_the_answer_world jp 100 ≡ false)
    × (owed cancelled_before_the_answer_world 1 ≡ 0)
    × (owed cancelled_before_the_answer_world 100 ≡ 0)
unfolding step verdict
cancelled_before_the_answer_held = (refl, refl, refl, refl, refl, refl, refl, refl)

pub cancelled_before_the_answer_sums : (held_units cancelled_before_the_answer_world jp ≡ 0)
    × (spendable_units cancelled_before_the_answer_world jp ≡ 0)
    × (held_units cancelled_before_the_answer_world nz ≡ 100)
    × (spendable_units cancelled_before_the_answer_world nz ≡ 100)
    × (owed_units cancelled_before_the_answer_world ≡ 0)
unfolding step verdict
cancelled_before_the_answer_sums = (refl, refl, refl, refl, refl)

-- ---- JP hears of a cancelled proposal only after the same units came to it by another one

abbrev pub stale_proposal_events : List WorldEvent
stale_proposal_events = propose nz 1 jp 7 all_units
    ∷ commit nz_node 1
    ∷ post nz_node 0
    ∷ deliver 0
    ∷ commit Itl 1
    ∷ post Itl 0
    ∷ clean_up a_day_after
    ∷ commit Itl 1
    ∷ post Itl 1
    ∷ deliver 2
    ∷ propose nz 1 jp 7 all_units
    ∷ commit nz_node 2
    ∷ post nz_node 1
    ∷ deliver 3
    ∷ commit Itl 1
    ∷ post Itl 3
    ∷ deliver 4
    ∷ commit jp_node 1
    ∷ post jp_node 0
    ∷ deliver 5
    ∷ commit Itl 1
    ∷ post Itl 4
    ∷ deliver 6
    ∷ commit nz_node 1
    ∷ post nz_node 2
    ∷ deliver 7
    ∷ commit Itl 1
    ∷ post Itl 5
    ∷ deliver 8
    ∷ commit jp_node 1
    ∷ deliver 1
    ∷ commit jp_node 1
    ∷ post jp_node 1
    ∷ deliver 9
    ∷ []

abbrev pub stale_proposal_world : World
stale_proposal_world = after stale_proposal_events

pub stale_proposal : outcomes (opening scheme_s) stale_proposal_events
    ≡ Recorded 0 ∷ Done ∷ Done ∷ Recorded 0 ∷ Done ∷ Done ∷ Recorded 1 ∷ Done ∷ Done ∷ Recorded 1
    ∷ Recorded 2 ∷ Done ∷ Done ∷ Recorded 2 ∷ Done ∷ Done ∷ Recorded 0 ∷ Done ∷ Done ∷ Recorded 3
    ∷ Done ∷ Done ∷ Recorded 3 ∷ Done ∷ Done ∷ Recorded 4 ∷ Done ∷ Done ∷ Recorded 1 ∷ Done
    ∷ Recorded 2 ∷ Done ∷ Done ∷ Late ∷ []
unfolding step verdict
stale_proposal = refl

pub stale_proposal_message : posted stale_proposal_world 9 ≡ Some (notification jp_node Itl nz1 (notified.Rejected (303 ∷ [])))
unfolding step verdict
stale_proposal_message = refl

pub stale_proposal_first : (status stale_proposal_world nz_node nz1 ≡ Some Cancelled)
    × (status stale_proposal_world Itl nz1 ≡ Some Cancelled)
    × (status stale_proposal_world jp_node nz1 ≡ Some Rejected)
unfolding step verdict
stale_proposal_first = (refl, refl, refl)

pub stale_proposal_second : (status stale_proposal_world nz_node nz2 ≡ Some Completed)
    × (status stale_proposal_world Itl nz2 ≡ Some Completed)
    × (status stale_proposal_world jp_node nz2 ≡ Some Completed)
unfolding step verdict
stale_proposal_second = (refl, refl, refl)

pub stale_proposal_at_jp : (holds stale_proposal_world jp 1 ≡ true)
    × (holds stale_proposal_world jp 100 ≡ true)
    × (holds stale_proposal_world jp 101 ≡ false)
    × (spendable stale_proposal_world jp 1 ≡ true)
    × (spendable stale_proposal_world jp 100 ≡ true)
    × (reserved stale_proposal_world jp 1 ≡ false)
    × (reserved stale_proposal_world jp 100 ≡ false)
    × (position stale_proposal_world jp 1 ≡ in_account 7)
    × (position stale_proposal_world jp 100 ≡ in_account 7)
unfolding step verdict
stale_proposal_at_jp = (refl, refl, refl, refl, refl, refl, refl, refl, refl)

pub stale_proposal_at_nz : (holds stale_proposal_world nz 1 ≡ false)
    × (holds stale_proposal_world nz 100 ≡ false)
    × (spendable stale_proposal_world nz 1 ≡ false)
    × (spendable stale_proposal_world nz 100 ≡ false)
unfolding step verdict
stale_proposal_at_nz = (refl, refl, refl, refl)

pub stale_proposal_owed : (owed stale_proposal_world 1 ≡ 0)
    × (owed stale_proposal_world 100 ≡ 0)
    × (owed stale_proposal_world 101 ≡ 0)
unfolding step verdict
stale_proposal_owed = (refl, refl, refl)

pub stale_proposal_sums : (held_units stale_proposal_world jp ≡ 100)
    × (spendable_units stale_proposal_world jp ≡ 100)
    × (held_units stale_proposal_world nz ≡ 0)
    × (spendable_units stale_proposal_world nz ≡ 0)
    × (owed_units stale_proposal_world ≡ 0)
unfolding step verdict
stale_proposal_sums = (refl, refl, refl, refl, refl)
