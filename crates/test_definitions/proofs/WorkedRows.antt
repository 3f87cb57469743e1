-- One transfer of a hundred units: where it stops on its way, messages that come again, and crashes.
use Rattle.std.proofs.Common.{◌≡◌, true, false, List, [], ◌∷◌, ◌++◌, Some, None, refl}
use Rattle.std.specs.Prelude.{take, drop}
use Rattle.units.specs.declared.code.Node.TheVariants.{Itl}
use Rattle.status.specs.Content.{Content}
use Rattle.status.specs.declared.status.Status.TheVariants.{Proposed, Checked, Accepted, Completed}
use Rattle.protocol.specs.declared.event.Outcome.TheVariants.{Recorded, Repeat, Done, NotPossible}
use Rattle.protocol.specs.declared.event.WorldEvent.{WorldEvent}
use Rattle.protocol.specs.Verdict.{verdict}
use Rattle.protocol.specs.World.{World, opening, step, outcomes}
use Rattle.protocol.proofs.WorkedScheme.{nz, jp, nz_node, jp_node, block, all_units, nz1, nz2, scheme_s, propose, commit, post, deliver, crash, restart, transfer, after, status, holds, spendable, reserved, position, in_account, owed, content_of, held_units, spendable_units, owed_units, debts}

-- ---- all nodes complete it

abbrev one_transfer_events : List WorldEvent
one_transfer_events = transfer

abbrev one_transfer_world : World
one_transfer_world = after one_transfer_events

pub one_transfer : outcomes (opening scheme_s) one_transfer_events
    ≡ Recorded 0 ∷ Done ∷ Done ∷ Recorded 0 ∷ Done ∷ Done ∷ Recorded 0 ∷ Done ∷ Done ∷ Recorded 1
    ∷ Done ∷ Done ∷ Recorded 1
    ∷ Done ∷ Done ∷ Recorded 2 ∷ Done ∷ Done ∷ Recorded 1 ∷ Done ∷ []
unfolding step verdict
one_transfer = refl

pub one_transfer_statuses : (status one_transfer_world nz_node nz1 ≡ Some Completed)
    × (status one_transfer_world Itl nz1 ≡ Some Completed)
    × (status one_transfer_world jp_node nz1 ≡ Some Completed)
unfolding step verdict
one_transfer_statuses = (refl, refl, refl)

pub one_transfer_at_jp : (holds one_transfer_world jp 1 ≡ true)
    × (holds one_transfer_world jp 100 ≡ true)
    × (holds one_transfer_world jp 101 ≡ false)
    × (spendable one_transfer_world jp 1 ≡ true)
    × (spendable one_transfer_world jp 100 ≡ true)
    × (reserved one_transfer_world jp 1 ≡ false)
    × (reserved one_transfer_world jp 100 ≡ false)
    × (position one_transfer_world jp 1 ≡ in_account 7)
    × (position one_transfer_world jp 100 ≡ in_account 7)
unfolding step verdict
one_transfer_at_jp = (refl, refl, refl, refl, refl, refl, refl, refl, refl)

pub one_transfer_at_nz : (holds one_transfer_world nz 1 ≡ false)
    × (holds one_transfer_world nz 100 ≡ false)
    × (spendable one_transfer_world nz 1 ≡ false)
    × (spendable one_transfer_world nz 100 ≡ false)
unfolding step verdict
one_transfer_at_nz = (refl, refl, refl, refl)

pub one_transfer_owed : (owed one_transfer_world 1 ≡ 0)
    × (owed one_transfer_world 100 ≡ 0)
    × (owed one_transfer_world 101 ≡ 0)
unfolding step verdict
one_transfer_owed = (refl, refl, refl)

pub one_transfer_sums : (held_units one_transfer_world jp ≡ 100)
    × (spendable_units one_transfer_world jp ≡ 100)
    × (held_units one_transfer_world nz ≡ 0)
    × (spendable_units one_transfer_world nz ≡ 0)
    × (owed_units one_transfer_world ≡ 0)
unfolding step verdict
one_transfer_sums = (refl, refl, refl, refl, refl)

-- ---- JP has not heard of the completion

abbrev in_transit_events : List WorldEvent
in_transit_events = take 18 transfer

abbrev in_transit_world : World
in_transit_world = after in_transit_events

pub in_transit : outcomes (opening scheme_s) in_transit_events
    ≡ Recorded 0 ∷ Done ∷ Done ∷ Recorded 0 ∷ Done ∷ Done ∷ Recorded 0 ∷ Done ∷ Done ∷ Recorded 1
    ∷ Done ∷ Done ∷ Recorded 1
    ∷ Done ∷ Done ∷ Recorded 2 ∷ Done ∷ Done ∷ []
unfolding step verdict
in_transit = refl

pub in_transit_statuses : (status in_transit_world nz_node nz1 ≡ Some Completed)
    × (status in_transit_world Itl nz1 ≡ Some Completed)
    × (status in_transit_world jp_node nz1 ≡ Some Accepted)
unfolding step verdict
in_transit_statuses = (refl, refl, refl)

pub in_transit_held : (holds in_transit_world nz 1 ≡ false)
    × (holds in_transit_world nz 100 ≡ false)
    × (holds in_transit_world jp 1 ≡ false)
    × (holds in_transit_world jp 100 ≡ false)
unfolding step verdict
in_transit_held = (refl, refl, refl, refl)

pub in_transit_owed : (owed in_transit_world 1 ≡ 1)
    × (owed in_transit_world 100 ≡ 1)
    × (owed in_transit_world 101 ≡ 0)
unfolding step verdict
in_transit_owed = (refl, refl, refl)

pub in_transit_sums : (held_units in_transit_world jp ≡ 0)
    × (spendable_units in_transit_world jp ≡ 0)
    × (held_units in_transit_world nz ≡ 0)
    × (spendable_units in_transit_world nz ≡ 0)
    × (owed_units in_transit_world ≡ 100)
    × (debts in_transit_world nz 1 ≡ nz1 ∷ [])
    × (debts in_transit_world nz 100 ≡ nz1 ∷ [])
unfolding step verdict
in_transit_sums = (refl, refl, refl, refl, refl, refl, refl)

-- ---- every message once more, twice, the last one first

abbrev everything_again_events : List WorldEvent
everything_again_events = transfer ++ deliver 5 ∷ deliver 4 ∷ deliver 3 ∷ deliver 2 ∷ deliver 1 ∷ deliver 0
    ∷ deliver 5 ∷ deliver 4 ∷ deliver 3 ∷ deliver 2 ∷ deliver 1 ∷ deliver 0 ∷ []

abbrev everything_again_world : World
everything_again_world = after everything_again_events

pub everything_again : outcomes (opening scheme_s) everything_again_events
    ≡ Recorded 0 ∷ Done ∷ Done ∷ Recorded 0 ∷ Done ∷ Done ∷ Recorded 0 ∷ Done ∷ Done ∷ Recorded 1
    ∷ Done ∷ Done ∷ Recorded 1
    ∷ Done ∷ Done ∷ Recorded 2 ∷ Done ∷ Done ∷ Recorded 1 ∷ Done
    ∷ Repeat ∷ Repeat ∷ Repeat ∷ Repeat ∷ Repeat ∷ Repeat
    ∷ Repeat ∷ Repeat ∷ Repeat ∷ Repeat ∷ Repeat ∷ Repeat ∷ []
unfolding step verdict
everything_again = refl

pub everything_again_statuses : (status everything_again_world nz_node nz1 ≡ Some Completed)
    × (status everything_again_world Itl nz1 ≡ Some Completed)
    × (status everything_again_world jp_node nz1 ≡ Some Completed)
unfolding step verdict
everything_again_statuses = (refl, refl, refl)

pub everything_again_at_jp : (holds everything_again_world jp 1 ≡ true)
    × (holds everything_again_world jp 100 ≡ true)
    × (holds everything_again_world jp 101 ≡ false)
    × (spendable everything_again_world jp 1 ≡ true)
    × (spendable everything_again_world jp 100 ≡ true)
    × (reserved everything_again_world jp 1 ≡ false)
    × (reserved everything_again_world jp 100 ≡ false)
    × (position everything_again_world jp 1 ≡ in_account 7)
    × (position everything_again_world jp 100 ≡ in_account 7)
unfolding step verdict
everything_again_at_jp = (refl, refl, refl, refl, refl, refl, refl, refl, refl)

pub everything_again_at_nz : (holds everything_again_world nz 1 ≡ false)
    × (holds everything_again_world nz 100 ≡ false)
    × (spendable everything_again_world nz 1 ≡ false)
    × (spendable everything_again_world nz 100 ≡ false)
unfolding step verdict
everything_again_at_nz = (refl, refl, refl, refl)

pub everything_again_owed : (owed everything_again_world 1 ≡ 0)
    × (owed everything_again_world 100 ≡ 0)
    × (owed everything_again_world 101 ≡ 0)
unfolding step verdict
everything_again_owed = (refl, refl, refl)

pub everything_again_sums : (held_units everything_again_world jp ≡ 100)
    × (spendable_units everything_again_world jp ≡ 100)
    × (held_units everything_again_world nz ≡ 0)
    × (spendable_units everything_again_world nz ≡ 0)
    × (owed_units everything_again_world ≡ 0)
unfolding step verdict
everything_again_sums = (refl, refl, refl, refl, refl)

-- ---- NZ crashes with the acceptance in its tail, which comes again

abbrev crash_after_commit_events : List WorldEvent
crash_after_commit_events = take 13 transfer ++ crash nz_node 0 ∷ post nz_node 0 ∷ restart nz_node ∷ deliver 3 ∷ drop 13 transfer

abbrev crash_after_commit_world : World
crash_after_commit_world = after crash_after_commit_events

pub crash_after_commit : outcomes (opening scheme_s) crash_after_commit_events
    ≡ Recorded 0 ∷ Done ∷ Done ∷ Recorded 0 ∷ Done ∷ Done ∷ Recorded 0 ∷ Done ∷ Done ∷ Recorded 1
    ∷ Done ∷ Done ∷ Recorded 1
    ∷ Done ∷ NotPossible ∷ Done ∷ Recorded 1
    ∷ Done ∷ Done ∷ Recorded 2 ∷ Done ∷ Done ∷ Recorded 1 ∷ Done ∷ []
unfolding step verdict
crash_after_commit = refl

pub crash_after_commit_statuses : (status crash_after_commit_world nz_node nz1 ≡ Some Completed)
    × (status crash_after_commit_world Itl nz1 ≡ Some Completed)
    × (status crash_after_commit_world jp_node nz1 ≡ Some Completed)
unfolding step verdict
crash_after_commit_statuses = (refl, refl, refl)

pub crash_after_commit_at_jp : (holds crash_after_commit_world jp 1 ≡ true)
    × (holds crash_after_commit_world jp 100 ≡ true)
    × (holds crash_after_commit_world jp 101 ≡ false)
    × (spendable crash_after_commit_world jp 1 ≡ true)
    × (spendable crash_after_commit_world jp 100 ≡ true)
    × (reserved crash_after_commit_world jp 1 ≡ false)
    × (reserved crash_after_commit_world jp 100 ≡ false)
    × (position crash_after_commit_world jp 1 ≡ in_account 7)
    × (position crash_after_commit_world jp 100 ≡ in_account 7)
unfolding step verdict
crash_after_commit_at_jp = (refl, refl, refl, refl, refl, refl, refl, refl, refl)

pub crash_after_commit_at_nz : (holds crash_after_commit_world nz 1 ≡ false)
    × (holds crash_after_commit_world nz 100 ≡ false)
    × (spendable crash_after_commit_world nz 1 ≡ false)
    × (spendable crash_after_commit_world nz 100 ≡ false)
unfolding step verdict
crash_after_commit_at_nz = (refl, refl, refl, refl)

pub crash_after_commit_owed : (owed crash_after_commit_world 1 ≡ 0)
    × (owed crash_after_commit_world 100 ≡ 0)
    × (owed crash_after_commit_world 101 ≡ 0)
unfolding step verdict
crash_after_commit_owed = (refl, refl, refl)

pub crash_after_commit_sums : (held_units crash_after_commit_world jp ≡ 100)
    × (spendable_units crash_after_commit_world jp ≡ 100)
    × (held_units crash_after_commit_world nz ≡ 0)
    × (spendable_units crash_after_commit_world nz ≡ 0)
    × (owed_units crash_after_commit_world ≡ 0)
unfolding step verdict
crash_after_commit_sums = (refl, refl, refl, refl, refl)

-- ---- NZ crashes with the order in its tail, and gives the number again

abbrev crash_before_commit_events : List WorldEvent
crash_before_commit_events = propose nz 1 jp 7 all_units ∷ post nz_node 0 ∷ crash nz_node 0 ∷ restart nz_node
    ∷ propose nz 1 jp 7 (block 1 10 ∷ []) ∷ commit nz_node 1 ∷ post nz_node 0 ∷ deliver 0 ∷ []

abbrev crash_before_commit_world : World
crash_before_commit_world = after crash_before_commit_events

pub crash_before_commit : outcomes (opening scheme_s) crash_before_commit_events
    ≡ Recorded 0 ∷ NotPossible ∷ Done ∷ Done ∷ Recorded 0 ∷ Done ∷ Done ∷ Recorded 0 ∷ []
unfolding step verdict
crash_before_commit = refl

abbrev ten_units : Content
ten_units = record { account = 1; acquirer = jp; to_account = 7; units = block 1 10 ∷ [] }

pub crash_before_commit_units : (content_of crash_before_commit_world nz_node nz1 ≡ Some ten_units)
    × (content_of crash_before_commit_world Itl nz1 ≡ Some ten_units)
unfolding step verdict
crash_before_commit_units = (refl, refl)

pub crash_before_commit_statuses : (status crash_before_commit_world nz_node nz1 ≡ Some Proposed)
    × (status crash_before_commit_world Itl nz1 ≡ Some Checked)
    × (status crash_before_commit_world jp_node nz1 ≡ None)
    × (status crash_before_commit_world nz_node nz2 ≡ None)
unfolding step verdict
crash_before_commit_statuses = (refl, refl, refl, refl)

pub crash_before_commit_at_nz : (holds crash_before_commit_world nz 1 ≡ true)
    × (holds crash_before_commit_world nz 10 ≡ true)
    × (holds crash_before_commit_world nz 11 ≡ true)
    × (holds crash_before_commit_world nz 100 ≡ true)
    × (spendable crash_before_commit_world nz 1 ≡ false)
    × (spendable crash_before_commit_world nz 10 ≡ false)
    × (spendable crash_before_commit_world nz 11 ≡ true)
    × (spendable crash_before_commit_world nz 100 ≡ true)
    × (reserved crash_before_commit_world nz 1 ≡ true)
    × (reserved crash_before_commit_world nz 10 ≡ true)
    × (reserved crash_before_commit_world nz 11 ≡ false)
    × (reserved crash_before_commit_world nz 100 ≡ false)
unfolding step verdict
crash_before_commit_at_nz = (refl, refl, refl, refl, refl, refl, refl, refl, refl, refl, refl, refl)

pub crash_before_commit_sums : (held_units crash_before_commit_world jp ≡ 0)
    × (spendable_units crash_before_commit_world jp ≡ 0)
    × (held_units crash_before_commit_world nz ≡ 100)
    × (spendable_units crash_before_commit_world nz ≡ 90)
    × (owed_units crash_before_commit_world ≡ 0)
unfolding step verdict
crash_before_commit_sums = (refl, refl, refl, refl, refl)
