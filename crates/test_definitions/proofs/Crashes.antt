-- The records of a tail that a commit and a crash keep, the node's state afterwards, and the inputs that it takes when
-- it runs again.
use Rattle.std.proofs.Common.{◌≡◌, true, false, List, [], ◌∷◌, ◌++◌, Some, None, refl, lit<}
use Rattle.std.specs.Prelude.{take}
use Rattle.units.specs.declared.code.Node.TheVariants.{Itl}
use Rattle.status.specs.declared.status.Status.TheVariants.{Proposed}
use Rattle.wire.specs.declared.input.Input.{Input}
use Rattle.wire.specs.declared.input.Input.TheVariants.{OpenAccount, CloseAccount}
use Rattle.wire.specs.declared.input.Number.{Number}
use Rattle.protocol.specs.declared.event.Outcome.TheVariants.{Recorded, Repeat, Refused, Done, NotPossible}
use Rattle.protocol.specs.declared.event.WorldEvent.{WorldEvent}
use Rattle.protocol.specs.Verdict.{verdict}
use Rattle.protocol.specs.World.{Station, opening, step, outcomes, station}
use Rattle.protocol.proofs.WorkedScheme.{nz, jp, nz_node, jp_node, block, nz1, nz2, scheme_s, propose, number, open_account, close_account, eligible, commit, post, deliver, crash, restart, transfer, after, status}

abbrev two : Number
two = number 2 (lit< tt)

-- one record is committed, and three are in the tail
abbrev tail_of_three : List WorldEvent
tail_of_three = close_account nz two ∷ commit nz_node 1 ∷ open_account nz two ∷ close_account nz two ∷ open_account nz two ∷ []

abbrev nz_has : (committed tail : List Input) → Station
nz_has committed tail = record { node = nz_node; committed = committed; tail = tail; runs = true }

abbrev nz_stopped_with : List Input → Station
nz_stopped_with committed = record { node = nz_node; committed = committed; tail = []; runs = false }

pub before_a_crash : (outcomes (opening scheme_s) tail_of_three ≡ Recorded 0 ∷ Done ∷ Recorded 1 ∷ Recorded 2 ∷ Recorded 3 ∷ [])
    × (station (after tail_of_three) nz_node ≡ Some (nz_has (CloseAccount two ∷ []) (OpenAccount two ∷ CloseAccount two ∷ OpenAccount two ∷ [])))
unfolding step verdict
before_a_crash = (refl, refl)

-- a commit takes the first ones, and the node goes on running
pub commit_takes_the_first : (station (after (tail_of_three ++ commit nz_node 1 ∷ [])) nz_node ≡ Some (nz_has (CloseAccount two ∷ OpenAccount two ∷ []) (CloseAccount two ∷ OpenAccount two ∷ [])))
    × (station (after (tail_of_three ++ commit nz_node 2 ∷ [])) nz_node ≡ Some (nz_has (CloseAccount two ∷ OpenAccount two ∷ CloseAccount two ∷ []) (OpenAccount two ∷ [])))
    × (station (after (tail_of_three ++ commit nz_node 3 ∷ [])) nz_node ≡ Some (nz_has (CloseAccount two ∷ OpenAccount two ∷ CloseAccount two ∷ OpenAccount two ∷ []) []))
    × (station (after (tail_of_three ++ commit nz_node 4 ∷ [])) nz_node ≡ Some (nz_has (CloseAccount two ∷ []) (OpenAccount two ∷ CloseAccount two ∷ OpenAccount two ∷ [])))
unfolding step verdict
commit_takes_the_first = (refl, refl, refl, refl)

-- ---- none, some and all of the tail are kept; more than it has can't be

pub crash_keeps_none : (outcomes (after tail_of_three) (crash nz_node 0 ∷ []) ≡ Done ∷ [])
    × (station (after (tail_of_three ++ crash nz_node 0 ∷ [])) nz_node ≡ Some (nz_stopped_with (CloseAccount two ∷ [])))
unfolding step verdict
crash_keeps_none = (refl, refl)

pub crash_keeps_one : (outcomes (after tail_of_three) (crash nz_node 1 ∷ []) ≡ Done ∷ [])
    × (station (after (tail_of_three ++ crash nz_node 1 ∷ [])) nz_node ≡ Some (nz_stopped_with (CloseAccount two ∷ OpenAccount two ∷ [])))
unfolding step verdict
crash_keeps_one = (refl, refl)

pub crash_keeps_two : station (after (tail_of_three ++ crash nz_node 2 ∷ [])) nz_node ≡ Some (nz_stopped_with (CloseAccount two ∷ OpenAccount two ∷ CloseAccount two ∷ []))
unfolding step verdict
crash_keeps_two = refl

pub crash_keeps_all : (outcomes (after tail_of_three) (crash nz_node 3 ∷ []) ≡ Done ∷ [])
    × (station (after (tail_of_three ++ crash nz_node 3 ∷ [])) nz_node ≡ Some (nz_stopped_with (CloseAccount two ∷ OpenAccount two ∷ CloseAccount two ∷ OpenAccount two ∷ [])))
unfolding step verdict
crash_keeps_all = (refl, refl)

pub crash_beyond_the_tail : (outcomes (after tail_of_three) (crash nz_node 4 ∷ []) ≡ NotPossible ∷ [])
    × (station (after (tail_of_three ++ crash nz_node 4 ∷ [])) nz_node ≡ Some (nz_has (CloseAccount two ∷ []) (OpenAccount two ∷ CloseAccount two ∷ OpenAccount two ∷ [])))
unfolding step verdict
crash_beyond_the_tail = (refl, refl)

pub crash_of_one_node : (station (after (tail_of_three ++ crash nz_node 1 ∷ [])) jp_node ≡ Some (record { node = jp_node; committed = []; tail = []; runs = true }))
    × (station (after (tail_of_three ++ crash nz_node 1 ∷ [])) Itl ≡ Some (record { node = Itl; committed = []; tail = []; runs = true }))
unfolding step verdict
crash_of_one_node = (refl, refl)

-- ---- started again, it has what was kept, and goes on from there

pub restarted : station (after (tail_of_three ++ crash nz_node 1 ∷ restart nz_node ∷ [])) nz_node ≡ Some (nz_has (CloseAccount two ∷ OpenAccount two ∷ []) [])
unfolding step verdict
restarted = refl

pub restarted_with_none : outcomes (after tail_of_three) (crash nz_node 0 ∷ restart nz_node ∷ close_account nz two ∷ open_account nz two ∷ commit nz_node 2 ∷ commit nz_node 1 ∷ []) ≡ Done ∷ Done ∷ Refused 111 ∷ Recorded 1 ∷ NotPossible ∷ Done ∷ []
unfolding step verdict
restarted_with_none = refl

pub restarted_with_one : outcomes (after tail_of_three) (crash nz_node 1 ∷ restart nz_node ∷ open_account nz two ∷ close_account nz two ∷ []) ≡ Done ∷ Done ∷ Refused 111 ∷ Recorded 2 ∷ []
unfolding step verdict
restarted_with_one = refl

pub restarted_with_all : outcomes (after tail_of_three) (crash nz_node 3 ∷ restart nz_node ∷ open_account nz two ∷ close_account nz two ∷ []) ≡ Done ∷ Done ∷ Refused 111 ∷ Recorded 4 ∷ []
unfolding step verdict
restarted_with_all = refl

-- ---- a lost record gives its units and its number back, a kept one has them, and its message may be posted

abbrev two_orders : List WorldEvent
two_orders = propose nz 1 jp 7 (block 1 10 ∷ []) ∷ propose nz 1 jp 7 (block 11 20 ∷ []) ∷ []

pub orders_kept_in_part : outcomes (opening scheme_s) (two_orders ++ crash nz_node 3 ∷ crash nz_node 1 ∷ propose nz 1 jp 7 (block 11 20 ∷ []) ∷ restart nz_node ∷ post nz_node 1 ∷ post nz_node 0 ∷ propose nz 1 jp 7 (block 10 10 ∷ []) ∷ propose nz 1 jp 7 (block 20 30 ∷ []) ∷ [])
    ≡ Recorded 0 ∷ Recorded 1 ∷ NotPossible ∷ Done ∷ NotPossible ∷ Done ∷ NotPossible ∷ Done ∷ Refused 106 ∷ Recorded 1 ∷ []
unfolding step verdict
orders_kept_in_part = refl

pub numbers_kept_in_part : (status (after (two_orders ++ crash nz_node 1 ∷ [])) nz_node nz1 ≡ Some Proposed)
    × (status (after (two_orders ++ crash nz_node 1 ∷ [])) nz_node nz2 ≡ None)
    × (status (after (two_orders ++ crash nz_node 0 ∷ [])) nz_node nz1 ≡ None)
    × (status (after (two_orders ++ crash nz_node 2 ∷ [])) nz_node nz2 ≡ Some Proposed)
    × (status (after (two_orders ++ crash nz_node 1 ∷ restart nz_node ∷ propose nz 1 jp 7 (block 20 30 ∷ []) ∷ [])) nz_node nz2 ≡ Some Proposed)
unfolding step verdict
numbers_kept_in_part = (refl, refl, refl, refl, refl)

-- ---- the log and the acquirer

pub log_restarted : outcomes (opening scheme_s) (eligible jp false ∷ eligible nz false ∷ crash Itl 1 ∷ restart Itl ∷ eligible jp false ∷ eligible nz true ∷ eligible nz false ∷ crash Itl 0 ∷ restart Itl ∷ eligible nz true ∷ eligible jp true ∷ [])
    ≡ Recorded 0 ∷ Recorded 1 ∷ Done ∷ Done ∷ Repeat ∷ Repeat ∷ Recorded 1 ∷ Done ∷ Done ∷ Repeat ∷ Recorded 1 ∷ []
unfolding step verdict
log_restarted = refl

-- the proposal that was lost comes again
pub acquirer_restarted : outcomes (after (take 7 transfer)) (crash jp_node 0 ∷ deliver 1 ∷ restart jp_node ∷ post jp_node 0 ∷ deliver 1 ∷ deliver 1 ∷ crash jp_node 1 ∷ restart jp_node ∷ deliver 1 ∷ post jp_node 0 ∷ deliver 2 ∷ [])
    ≡ Done ∷ NotPossible ∷ Done ∷ NotPossible ∷ Recorded 0 ∷ Repeat ∷ Done ∷ Done ∷ Repeat ∷ Done ∷ Recorded 1 ∷ []
unfolding step verdict
acquirer_restarted = refl
