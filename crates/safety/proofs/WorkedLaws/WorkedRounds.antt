-- What settles a message, what is no round, and transactions that have not ended.
use Rattle.std.proofs.Common.{◌≡◌, true, false, List, [], ◌∷◌, ◌++◌, Some, inl, inr, refl, sym, ◌∙◌, lit<, None}
use Rattle.std.specs.Prelude.{Contains, slice_get, take}
use Rattle.units.specs.declared.code.Node.{Node}
use Rattle.units.specs.declared.code.Node.TheVariants.{Itl}
use Rattle.status.specs.declared.status.Status.TheVariants.{Proposed, Checked, Accepted, Rejected, Terminated, Cancelled, Completed}
use Rattle.wire.specs.declared.input.Input.TheVariants.{Received, Request}
use Rattle.wire.specs.declared.message.Message.{Message}
use Rattle.wire.specs.declared.message.ProposalStatus.TheVariants as proposal
use Rattle.protocol.specs.declared.event.Outcome.TheVariants.{Recorded, Repeat, Late, Refused, Done, NotPossible}
use Rattle.protocol.specs.declared.event.WorldEvent.{WorldEvent}
use Rattle.protocol.specs.declared.event.WorldEvent.TheVariants.{Take}
use Rattle.protocol.specs.Claims.{committed_of, committed_part, whole}
use Rattle.protocol.specs.History.{sends}
use Rattle.safety.specs.Rounds.{HasEnded, HasRounds, IsReceived, IsRound, IsSettled, OpenOnesWait, RoundsEnd, SettledStays, SettlesWhatIsReceived}
use Rattle.safety.specs.RoundsLeft.{rounds_left}
use Rattle.protocol.specs.Verdict.{verdict}
use Rattle.protocol.specs.World.{World, opening, run, station, step}
use Rattle.protocol.proofs.WorkedScheme.{after, all_units, commit, deliver, eligible, first_of_may, jp, nz1, nz_node, post, scheme_of_one, transfer, unit}
use Rattle.safety.proofs.WorkedLaws.WorkedMessages.{all_made, completes, first_unit, proposes, to_jp}

abbrev offer : Message
offer = proposes nz_node Itl nz1 proposal.Proposed (to_jp all_units)

-- it is committed at its initiator, posted, in the tail of the log, and committed there
abbrev proposed : World
proposed = after (take 2 transfer)

abbrev in_the_bag : World
in_the_bag = after (take 3 transfer)

abbrev in_a_tail : World
in_a_tail = after (take 4 transfer)

abbrev checked : World
checked = after (take 5 transfer)

-- ---- the committed journal settles a message, and the tail doesn't

pub unsettled_at_first : IsSettled proposed offer → ⊥
unfolding step verdict
unsettled_at_first (moment, inl e) = cc (e)
unsettled_at_first (moment, inr e) = cc (e)

pub unsettled_by_the_tail : IsSettled in_a_tail offer → ⊥
unfolding step verdict
unsettled_by_the_tail (moment, inl e) = cc (e)
unsettled_by_the_tail (moment, inr e) = cc (e)

pub settled_by_the_commit : IsSettled checked offer
unfolding step verdict
settled_by_the_commit = (first_of_may, inl refl)

-- the request came first, and so the proposal is late
abbrev forestalled : World
forestalled = after (take 2 transfer ++ Take nz_node (Request nz1) ∷ commit nz_node 1 ∷ post nz_node 1 ∷ deliver 0 ∷ commit Itl 1 ∷ [])

pub settled_too_late : IsSettled forestalled offer
unfolding step verdict
settled_too_late = (first_of_may, inr refl)

-- the journal of the log is full
abbrev full : World
full = run (opening scheme_of_one) (eligible jp false ∷ commit Itl 1 ∷ take 2 transfer)

pub unsettled_when_full : IsSettled full offer → ⊥
unfolding step verdict
unsettled_when_full (moment, inl e) = cc (e)
unsettled_when_full (moment, inr e) = cc (e)

-- ---- rounds

pub no_round_at_once : IsRound proposed proposed → ⊥
unfolding step verdict
no_round_at_once h = unsettled_at_first (h nz_node offer (0, lit< tt, refl))

pub no_round_by_the_tail : IsRound proposed in_a_tail → ⊥
unfolding step verdict
no_round_by_the_tail h = unsettled_by_the_tail (h nz_node offer (0, lit< tt, refl))

pub no_rounds : HasRounds 0 proposed []
no_rounds = tt

-- ---- not ended

pub open_after_none : RoundsEnd 0 proposed → ⊥
unfolding step verdict
open_after_none claim = (claim [] tt nz1 refl).0.closed (nz_node, Proposed, refl, inl refl)

-- NZ has completed, and JP knows nothing: it is open nowhere, and the unit is owed
pub owed_and_not_open : HasEnded (all_made [] (completes nz1 (Some (to_jp first_unit)) ∷ []) []) nz1 → ⊥
owed_and_not_open ended = let e : true ≡ false = (ended.free (unit 1) (completes nz1 (Some (to_jp first_unit))) (0, lit< tt, refl) refl).1 in cc (e)

-- ---- what is received

pub received_outcomes : IsReceived (Recorded 3) × IsReceived Repeat × IsReceived Late
received_outcomes = (tt, tt, tt)

pub not_received : (IsReceived (Refused 49) → ⊥) × (IsReceived NotPossible → ⊥) × (IsReceived Done → ⊥)
not_received = ((λ h. h), (λ h. h), λ h. h)

-- after the delivery, and after the commit that follows
abbrev delivered : World
delivered = (step in_the_bag (deliver 0)).world

abbrev committed : World
committed = run delivered (commit Itl 1 ∷ [])

whole_journal : whole (station delivered Itl) ++ [] ≡ Received offer first_of_may ∷ []
unfolding step verdict
whole_journal = refl

commits_it : committed_part (station committed Itl) ≡ Received offer first_of_may ∷ []
unfolding step verdict
commits_it = refl

it_is_posted : slice_get in_the_bag.bag 0 ≡ Some (record { node = nz_node; key = 0; message = offer })
unfolding step verdict
it_is_posted = refl

it_is_recorded : IsReceived (step in_the_bag (deliver 0)).outcome
unfolding step verdict
it_is_recorded = tt

pub settled_when_received : SettlesWhatIsReceived in_the_bag → IsSettled committed offer
settled_when_received claim = claim 0 first_of_may (record { node = nz_node; key = 0; message = offer }) it_is_posted it_is_recorded (commit Itl 1 ∷ []) [] (commits_it ∙ sym whole_journal)

pub settled_for_good : SettledStays checked → (more : List WorldEvent) → IsSettled (run checked more) offer
unfolding step verdict
settled_for_good claim more = claim nz_node offer (0, lit< tt, refl) settled_by_the_commit more

pub waits_for_a_message : OpenOnesWait proposed → (n : Node) × (m : Message) × Contains (sends (committed_of proposed n)) m × (m.id ≡ nz1) × (IsSettled proposed m → ⊥)
unfolding step verdict
waits_for_a_message claim = claim nz1 (nz_node, Proposed, refl, inl refl)

-- ---- the rounds that are left, by the statuses at initiator, log and acquirer

pub rounds_while_proposed : (rounds_left (Some Proposed) None None ≡ 6)
    × (rounds_left (Some Proposed) (Some Checked) None ≡ 5)
    × (rounds_left (Some Proposed) (Some Checked) (Some Accepted) ≡ 4)
    × (rounds_left (Some Proposed) (Some Checked) (Some Rejected) ≡ 2)
    × (rounds_left (Some Proposed) (Some Accepted) (Some Accepted) ≡ 3)
    × (rounds_left (Some Proposed) (Some Rejected) (Some Rejected) ≡ 1)
    × (rounds_left (Some Proposed) (Some Terminated) None ≡ 1)
    × (rounds_left (Some Proposed) (Some Cancelled) (Some Accepted) ≡ 1)
rounds_while_proposed = (refl, refl, refl, refl, refl, refl, refl, refl)

pub rounds_after_it : (rounds_left (Some Completed) (Some Accepted) (Some Accepted) ≡ 2)
    × (rounds_left (Some Completed) (Some Completed) (Some Accepted) ≡ 1)
    × (rounds_left (Some Completed) (Some Completed) (Some Completed) ≡ 0)
    × (rounds_left (Some Cancelled) (Some Cancelled) (Some Accepted) ≡ 1)
    × (rounds_left (Some Cancelled) (Some Cancelled) None ≡ 1)
    × (rounds_left (Some Cancelled) (Some Cancelled) (Some Cancelled) ≡ 0)
    × (rounds_left (Some Rejected) (Some Rejected) (Some Rejected) ≡ 0)
    × (rounds_left (Some Terminated) (Some Terminated) None ≡ 0)
rounds_after_it = (refl, refl, refl, refl, refl, refl, refl, refl)
