-- Refusals and failures: orders, transfers, accounts, acknowledgements, and a full journal.
use Rattle.std.proofs.Common.{◌≡◌, true, false, List, [], ◌∷◌, ◌++◌, Some, None, refl, lit<}
use Rattle.std.specs.Prelude.{◌+◌, ◌==◌, ◌&&◌, take}
use Rattle.units.specs.declared.block.Kind.TheVariants.{Aau, Cer}
use Rattle.units.specs.Unit.{same_kind}
use Rattle.units.specs.declared.block.RawBlock.{RawBlock}
use Rattle.units.specs.declared.code.Node.TheVariants.{Itl}
use Rattle.status.specs.Id.{id_at, number_from}
use Rattle.status.specs.Order.{Order}
use Rattle.status.specs.declared.id.TransactionId.{TransactionId}
use Rattle.status.specs.declared.status.Status.TheVariants.{Proposed, Rejected, Terminated}
use Rattle.wire.specs.declared.notified.NotifiedStatus.TheVariants as notified
use Rattle.protocol.specs.AtRegistry.{content_of, new_transfer_verdict}
use Rattle.protocol.specs.Checks as checks
use Rattle.protocol.specs.Checks.{Holding, codes_of}
use Rattle.protocol.specs.Deciding.{IsRefused}
use Rattle.protocol.specs.declared.event.Outcome.TheVariants.{Recorded, Repeat, Refused, Done, NotPossible}
use Rattle.protocol.specs.declared.event.WorldEvent.{WorldEvent}
use Rattle.protocol.specs.Verdict.{verdict}
use Rattle.protocol.specs.World.{World, opening, step, outcomes}
use Rattle.protocol.proofs.WorkedScheme.{nz, jp, nz_node, jp_node, block_of, block, all_units, nz1, nz2, scheme_s, scheme_of_one, propose, number, open_account, close_account, ack, eligible, commit, post, deliver, transfer, after, status, holds, spendable, reserved, position, in_account, owed, notification, posted, held_units, spendable_units, owed_units}

-- ---- two orders share a unit

abbrev pub reserved_overlap_events : List WorldEvent
reserved_overlap_events = propose nz 1 jp 7 (block 1 60 ∷ []) ∷ propose nz 1 jp 7 (block 60 100 ∷ []) ∷ []

abbrev pub reserved_overlap_world : World
reserved_overlap_world = after reserved_overlap_events

pub reserved_overlap : outcomes (opening scheme_s) reserved_overlap_events
    ≡ Recorded 0 ∷ Refused 106 ∷ []
unfolding step verdict
reserved_overlap = refl

pub reserved_overlap_held : (holds reserved_overlap_world nz 1 ≡ true)
    × (holds reserved_overlap_world nz 60 ≡ true)
    × (holds reserved_overlap_world nz 61 ≡ true)
    × (holds reserved_overlap_world nz 100 ≡ true)
    × (position reserved_overlap_world nz 1 ≡ in_account 1)
    × (position reserved_overlap_world nz 60 ≡ in_account 1)
    × (position reserved_overlap_world nz 61 ≡ in_account 1)
    × (position reserved_overlap_world nz 100 ≡ in_account 1)
unfolding step verdict
reserved_overlap_held = (refl, refl, refl, refl, refl, refl, refl, refl)

pub reserved_overlap_reserved : (reserved reserved_overlap_world nz 1 ≡ true)
    × (reserved reserved_overlap_world nz 60 ≡ true)
    × (reserved reserved_overlap_world nz 61 ≡ false)
    × (reserved reserved_overlap_world nz 100 ≡ false)
unfolding step verdict
reserved_overlap_reserved = (refl, refl, refl, refl)

pub reserved_overlap_spendable : (spendable reserved_overlap_world nz 1 ≡ false)
    × (spendable reserved_overlap_world nz 60 ≡ false)
    × (spendable reserved_overlap_world nz 61 ≡ true)
    × (spendable reserved_overlap_world nz 100 ≡ true)
unfolding step verdict
reserved_overlap_spendable = (refl, refl, refl, refl)

pub reserved_overlap_sums : (held_units reserved_overlap_world jp ≡ 0)
    × (spendable_units reserved_overlap_world jp ≡ 0)
    × (held_units reserved_overlap_world nz ≡ 100)
    × (spendable_units reserved_overlap_world nz ≡ 40)
    × (owed_units reserved_overlap_world ≡ 0)
unfolding step verdict
reserved_overlap_sums = (refl, refl, refl, refl, refl)

pub reserved_overlap_statuses : (status reserved_overlap_world nz_node nz1 ≡ Some Proposed)
    × (status reserved_overlap_world nz_node nz2 ≡ None)
unfolding step verdict
reserved_overlap_statuses = (refl, refl)

-- ---- the receiving account is closed

abbrev receiving_account_closed_events : List WorldEvent
receiving_account_closed_events = close_account jp (number 8 (lit< tt))
    ∷ propose nz 1 jp 8 (block 41 60 ∷ [])
    ∷ commit nz_node 1
    ∷ post nz_node 0
    ∷ deliver 0
    ∷ commit Itl 1
    ∷ post Itl 0
    ∷ deliver 1
    ∷ commit jp_node 2
    ∷ post jp_node 0
    ∷ deliver 2
    ∷ commit Itl 1
    ∷ post Itl 1
    ∷ deliver 3
    ∷ []

abbrev receiving_account_closed_world : World
receiving_account_closed_world = after receiving_account_closed_events

pub receiving_account_closed : outcomes (opening scheme_s) receiving_account_closed_events
    ≡ Recorded 0 ∷ Recorded 0 ∷ Done ∷ Done ∷ Recorded 0 ∷ Done ∷ Done ∷ Recorded 1 ∷ Done ∷ Done ∷ Recorded 1
    ∷ Done ∷ Done ∷ Recorded 1 ∷ []
unfolding step verdict
receiving_account_closed = refl

pub receiving_account_closed_messages : (posted receiving_account_closed_world 2 ≡ Some (notification jp_node Itl nz1 (notified.Rejected (302 ∷ []))))
    × (posted receiving_account_closed_world 3 ≡ Some (notification Itl nz_node nz1 (notified.Rejected (302 ∷ []))))
unfolding step verdict
receiving_account_closed_messages = (refl, refl)

pub receiving_account_closed_statuses : (status receiving_account_closed_world nz_node nz1 ≡ Some Rejected)
    × (status receiving_account_closed_world Itl nz1 ≡ Some Rejected)
    × (status receiving_account_closed_world jp_node nz1 ≡ Some Rejected)
unfolding step verdict
receiving_account_closed_statuses = (refl, refl, refl)

pub receiving_account_closed_at_nz : (holds receiving_account_closed_world nz 1 ≡ true)
    × (holds receiving_account_closed_world nz 41 ≡ true)
    × (holds receiving_account_closed_world nz 60 ≡ true)
    × (holds receiving_account_closed_world nz 100 ≡ true)
    × (spendable receiving_account_closed_world nz 1 ≡ true)
    × (spendable receiving_account_closed_world nz 41 ≡ true)
    × (spendable receiving_account_closed_world nz 60 ≡ true)
    × (spendable receiving_account_closed_world nz 100 ≡ true)
    × (position receiving_account_closed_world nz 1 ≡ in_account 1)
    × (position receiving_account_closed_world nz 41 ≡ in_account 1)
    × (position receiving_account_closed_world nz 60 ≡ in_account 1)
    × (position receiving_account_closed_world nz 100 ≡ in_account 1)
unfolding step verdict
receiving_account_closed_at_nz = (refl, refl, refl, refl, refl, refl, refl, refl, refl, refl, refl, refl)

pub receiving_account_closed_owed : (owed receiving_account_closed_world 1 ≡ 0)
    × (owed receiving_account_closed_world 41 ≡ 0)
    × (owed receiving_account_closed_world 60 ≡ 0)
    × (owed receiving_account_closed_world 100 ≡ 0)
    × (holds receiving_account_closed_world jp 41 ≡ false)
    × (holds receiving_account_closed_world jp 60 ≡ false)
unfolding step verdict
receiving_account_closed_owed = (refl, refl, refl, refl, refl, refl)

pub receiving_account_closed_sums : (held_units receiving_account_closed_world jp ≡ 0)
    × (spendable_units receiving_account_closed_world jp ≡ 0)
    × (held_units receiving_account_closed_world nz ≡ 100)
    × (spendable_units receiving_account_closed_world nz ≡ 100)
    × (owed_units receiving_account_closed_world ≡ 0)
unfolding step verdict
receiving_account_closed_sums = (refl, refl, refl, refl, refl)

-- ---- NZ may not take part

abbrev not_eligible_events : List WorldEvent
not_eligible_events = eligible nz false ∷ take 3 transfer ++ deliver 0 ∷ commit Itl 2 ∷ post Itl 0 ∷ deliver 1 ∷ []

abbrev not_eligible_world : World
not_eligible_world = after not_eligible_events

pub not_eligible : outcomes (opening scheme_s) not_eligible_events
    ≡ Recorded 0 ∷ Recorded 0 ∷ Done ∷ Done ∷ Recorded 1 ∷ Done ∷ Done ∷ Recorded 1 ∷ []
unfolding step verdict
not_eligible = refl

pub not_eligible_message : posted not_eligible_world 1 ≡ Some (notification Itl nz_node nz1 (notified.Terminated (207 ∷ [])))
unfolding step verdict
not_eligible_message = refl

pub not_eligible_statuses : (status not_eligible_world nz_node nz1 ≡ Some Terminated)
    × (status not_eligible_world Itl nz1 ≡ Some Terminated)
    × (status not_eligible_world jp_node nz1 ≡ None)
unfolding step verdict
not_eligible_statuses = (refl, refl, refl)

pub not_eligible_at_nz : (holds not_eligible_world nz 1 ≡ true)
    × (holds not_eligible_world nz 100 ≡ true)
    × (spendable not_eligible_world nz 1 ≡ true)
    × (spendable not_eligible_world nz 100 ≡ true)
    × (owed not_eligible_world 1 ≡ 0)
    × (owed not_eligible_world 100 ≡ 0)
unfolding step verdict
not_eligible_at_nz = (refl, refl, refl, refl, refl, refl)

pub not_eligible_sums : (held_units not_eligible_world jp ≡ 0)
    × (spendable_units not_eligible_world jp ≡ 0)
    × (held_units not_eligible_world nz ≡ 100)
    × (spendable_units not_eligible_world nz ≡ 100)
    × (owed_units not_eligible_world ≡ 0)
unfolding step verdict
not_eligible_sums = (refl, refl, refl, refl, refl)

-- ---- orders that are refused

abbrev seventeen : List RawBlock
seventeen = block 1 1 ∷ block 2 2 ∷ block 3 3 ∷ block 4 4 ∷ block 5 5 ∷ block 6 6 ∷ block 7 7 ∷ block 8 8 ∷ block 9 9
    ∷ block 10 10 ∷ block 11 11 ∷ block 12 12 ∷ block 13 13 ∷ block 14 14 ∷ block 15 15 ∷ block 16 16 ∷ block 17 17 ∷ []

abbrev propose_refusals_events : List WorldEvent
propose_refusals_events = propose nz 1 jp 7 []
    ∷ propose nz 1 jp 7 seventeen
    ∷ propose nz 1 nz 2 (block 1 1 ∷ [])
    ∷ propose nz 1 jp 0 (block 1 1 ∷ [])
    ∷ propose nz 1 jp 7 (block 1 5 ∷ block 5 6 ∷ [])
    ∷ propose nz 1 jp 7 (block_of Cer 1 1 ∷ [])
    ∷ propose nz 1 jp 7 (block 101 101 ∷ [])
    ∷ close_account nz (number 2 (lit< tt))
    ∷ propose nz 2 jp 7 (block 1 1 ∷ [])
    ∷ []

abbrev propose_refusals_world : World
propose_refusals_world = after propose_refusals_events

pub propose_refusals : outcomes (opening scheme_s) propose_refusals_events
    ≡ Refused 101 ∷ Refused 101 ∷ Refused 107 ∷ Refused 108 ∷ Refused 103 ∷ Refused 105 ∷ Refused 105 ∷ Recorded 0 ∷ Refused 104 ∷ []
unfolding step verdict
propose_refusals = refl

-- an account that a transfer is awaited in
abbrev awaited_events : List WorldEvent
awaited_events = take 8 transfer ++ close_account jp (number 7 (lit< tt)) ∷ []

pub propose_refusals_awaited : outcomes (opening scheme_s) awaited_events
    ≡ Recorded 0 ∷ Done ∷ Done ∷ Recorded 0 ∷ Done ∷ Done ∷ Recorded 0 ∷ Done ∷ Refused 113 ∷ []
unfolding step verdict
propose_refusals_awaited = refl

-- each unit is in account 1, free; the last number, and none after it
abbrev all_free : Holding
all_free = record {
  is_closed = λ account. false;
  has = λ account p. (account == 1) && same_kind p.kind Aau;
  is_held = λ s. true;
  is_reserved = λ s. false;
}

abbrev good : Order
good = record { account = 1; acquirer = jp; to_account = 7; units = all_units }

abbrev last_id : TransactionId
last_id = record { code = nz; number = 999_999; in_range = number_from 999_999 refl }

pub propose_refusals_last_number : (codes_of (checks.propose_refusals scheme_s nz all_free good) ≡ [])
    × (id_at nz (999_998 + 1) ≡ Some last_id)
    × (new_transfer_verdict scheme_s nz [] (content_of good) (id_at nz (999_999 + 1)) ≡ IsRefused 109)
propose_refusals_last_number = (refl, refl, refl)

-- ---- acknowledgements

abbrev acknowledgements_events : List WorldEvent
acknowledgements_events = take 4 transfer ++ ack nz_node (number 0 (lit< tt)) ∷ ack nz_node (number 0 (lit< tt)) ∷ ack nz_node (number 1 (lit< tt)) ∷ []

abbrev acknowledgements_world : World
acknowledgements_world = after acknowledgements_events

pub acknowledgements : outcomes (opening scheme_s) acknowledgements_events
    ≡ Recorded 0 ∷ Done ∷ Done ∷ Recorded 0 ∷ Recorded 1 ∷ Repeat ∷ NotPossible ∷ []
unfolding step verdict
acknowledgements = refl

-- ---- a journal with room for one record

abbrev journal_full_events : List WorldEvent
journal_full_events = propose nz 1 jp 7 all_units ∷ open_account nz (number 2 (lit< tt)) ∷ close_account nz (number 2 (lit< tt)) ∷ []

pub journal_full : outcomes (opening scheme_of_one) journal_full_events
    ≡ Recorded 0 ∷ Refused 111 ∷ Refused 49 ∷ []
unfolding step verdict
journal_full = refl
