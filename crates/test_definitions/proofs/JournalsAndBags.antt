-- The records of each node and the messages that were posted, in three of the worked runs.
use Rattle.std.proofs.Common.{◌≡◌, true, ℕ, false, List, [], ◌∷◌, Some, None, refl}
use Rattle.std.specs.Prelude.{take}
use Rattle.units.specs.declared.code.Node.{Node}
use Rattle.units.specs.declared.code.Node.TheVariants.{Itl, Registry}
use Rattle.status.specs.declared.id.TransactionId.{TransactionId}
use Rattle.wire.specs.declared.input.Input.{Input}
use Rattle.wire.specs.declared.input.Input.TheVariants.{CleanUp}
use Rattle.wire.specs.declared.message.Message.{Message}
use Rattle.wire.specs.declared.message.ProposalStatus.TheVariants as proposal
use Rattle.wire.specs.declared.notified.NotifiedStatus.{NotifiedStatus}
use Rattle.wire.specs.declared.notified.NotifiedStatus.TheVariants as notified
use Rattle.protocol.specs.Verdict.{verdict}
use Rattle.protocol.specs.World.{Station, step, station}
use Rattle.protocol.specs.declared.event.Posted.{Posted}
use Rattle.protocol.proofs.WorkedScheme.{nz, jp, nz_node, jp_node, block, all_units, nz1, nz2, transfer, after, holds, spendable, a_day_after, notification}
use Rattle.test_definitions.proofs.ShortNames.{au, to_jp, proposes, comes, orders, has}
use Rattle.test_definitions.proofs.WorkedCleanUps.{stale_proposal_world}
use Rattle.test_definitions.proofs.WorkedRefusals.{reserved_overlap_world}

abbrev posted : Node → ℕ → Message → Posted
posted n key m = record { node = n; key = key; message = m }

abbrev tells : Node → Node → TransactionId → NotifiedStatus → Message
tells from to t status = notification from to t status

abbrev proposed : TransactionId → Message
proposed t = proposes nz_node Itl t proposal.Proposed (to_jp all_units)

abbrev checked : TransactionId → Message
checked t = proposes Itl jp_node t proposal.Checked (to_jp all_units)

abbrev order : Input
order = orders 1 jp 7 all_units

-- ---- a whole transfer, and the same before its last two events

abbrev six_posted : List Posted
six_posted =
    posted nz_node 0 (proposed nz1)
    ∷ posted Itl 0 (checked nz1)
    ∷ posted jp_node 0 (tells jp_node Itl nz1 notified.Accepted)
    ∷ posted Itl 1 (tells Itl nz_node nz1 notified.Accepted)
    ∷ posted nz_node 1 (tells nz_node Itl nz1 notified.Completed)
    ∷ posted Itl 2 (tells Itl jp_node nz1 notified.Completed)
    ∷ []

abbrev at_the_log : Station
at_the_log = has Itl (comes (proposed nz1) ∷ comes (tells jp_node Itl nz1 notified.Accepted) ∷ comes (tells nz_node Itl nz1 notified.Completed) ∷ [])

abbrev at_nz : Station
at_nz = has nz_node (order ∷ comes (tells Itl nz_node nz1 notified.Accepted) ∷ [])

pub posted_in_a_transfer : ((after transfer).bag ≡ six_posted) × ((after (take 18 transfer)).bag ≡ six_posted)
unfolding step verdict
posted_in_a_transfer = (refl, refl)

pub journals_of_a_transfer : (station (after transfer) Itl ≡ Some at_the_log)
    × (station (after transfer) jp_node ≡ Some (has jp_node (comes (checked nz1) ∷ comes (tells Itl jp_node nz1 notified.Completed) ∷ [])))
    × (station (after transfer) nz_node ≡ Some at_nz)
unfolding step verdict
journals_of_a_transfer = (refl, refl, refl)

pub journals_in_transit : (station (after (take 18 transfer)) Itl ≡ Some at_the_log) × (station (after (take 18 transfer)) jp_node ≡ Some (has jp_node (comes (checked nz1) ∷ []))) × (station (after (take 18 transfer)) nz_node ≡ Some at_nz)
unfolding step verdict
journals_in_transit = (refl, refl, refl)

-- ---- an order for reserved units: one record, which isn't committed; and a registry that the scheme doesn't have

pub journals_at_a_reserved_overlap : (station reserved_overlap_world Itl ≡ Some (has Itl []))
    × (station reserved_overlap_world jp_node ≡ Some (has jp_node []))
    × (station reserved_overlap_world nz_node ≡ Some (record { node = nz_node; committed = []; tail = orders 1 jp 7 (block 1 60 ∷ []) ∷ []; runs = true }))
    × (reserved_overlap_world.bag ≡ [])
unfolding step verdict
journals_at_a_reserved_overlap = (refl, refl, refl, refl)

pub no_other_registry : (station reserved_overlap_world (Registry au) ≡ None) × (holds reserved_overlap_world au 1 ≡ false) × (spendable reserved_overlap_world au 1 ≡ false)
unfolding step verdict
no_other_registry = (refl, refl, refl)

-- ---- a proposal that arrives after a later one

pub posted_around_a_stale_proposal : stale_proposal_world.bag
    ≡ posted nz_node 0 (proposed nz1)
    ∷ posted Itl 0 (checked nz1)
    ∷ posted Itl 1 (tells Itl nz_node nz1 notified.Cancelled)
    ∷ posted nz_node 1 (proposed nz2)
    ∷ posted Itl 3 (checked nz2)
    ∷ posted jp_node 0 (tells jp_node Itl nz2 notified.Accepted)
    ∷ posted Itl 4 (tells Itl nz_node nz2 notified.Accepted)
    ∷ posted nz_node 2 (tells nz_node Itl nz2 notified.Completed)
    ∷ posted Itl 5 (tells Itl jp_node nz2 notified.Completed)
    ∷ posted jp_node 1 (tells jp_node Itl nz1 (notified.Rejected (303 ∷ [])))
    ∷ []
unfolding step verdict
posted_around_a_stale_proposal = refl

-- the rejection comes too late for the log to record it
pub log_of_a_stale_proposal : station stale_proposal_world Itl
    ≡ Some (has Itl (comes (proposed nz1) ∷ CleanUp a_day_after ∷ comes (proposed nz2) ∷ comes (tells jp_node Itl nz2 notified.Accepted) ∷ comes (tells nz_node Itl nz2 notified.Completed) ∷ []))
unfolding step verdict
log_of_a_stale_proposal = refl

pub acquirer_of_a_stale_proposal : station stale_proposal_world jp_node ≡ Some (has jp_node (comes (checked nz2) ∷ comes (tells Itl jp_node nz2 notified.Completed) ∷ comes (checked nz1) ∷ []))
unfolding step verdict
acquirer_of_a_stale_proposal = refl

pub initiator_of_a_stale_proposal : station stale_proposal_world nz_node
    ≡ Some (has nz_node (order ∷ comes (tells Itl nz_node nz1 notified.Cancelled) ∷ order ∷ comes (tells Itl nz_node nz2 notified.Accepted) ∷ []))
unfolding step verdict
initiator_of_a_stale_proposal = refl
