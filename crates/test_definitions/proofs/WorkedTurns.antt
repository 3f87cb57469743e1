-- A transfer back, two transfers cleaned up at once, and the tables for single events.
use Rattle.std.proofs.Common.{◌≡◌, ℕ, true, false, List, [], ◌∷◌, ◌++◌, Some, refl, lit<}
use Rattle.std.specs.Prelude.{take}
use Rattle.units.specs.declared.block.Kind.TheVariants.{Rmu, Cer}
use Rattle.units.specs.declared.block.RawBlock.{RawBlock}
use Rattle.units.specs.declared.code.Code.{Code}
use Rattle.units.specs.declared.code.Node.{Node}
use Rattle.units.specs.declared.code.Node.TheVariants.{Itl}
use Rattle.status.specs.Content.{Content}
use Rattle.status.specs.Id.{number_from}
use Rattle.status.specs.declared.id.TransactionId.{TransactionId}
use Rattle.wire.specs.declared.input.Input.{Input}
use Rattle.wire.specs.declared.input.Input.TheVariants.{Received, CloseAccount, CleanUp, Eligible, Ack}
use Rattle.wire.specs.declared.message.Body.TheVariants.{Proposal}
use Rattle.wire.specs.declared.message.Message.{Message}
use Rattle.wire.specs.declared.message.ProposalStatus.{ProposalStatus}
use Rattle.wire.specs.declared.message.ProposalStatus.TheVariants as proposal
use Rattle.wire.specs.declared.notified.NotifiedStatus.TheVariants as notified
use Rattle.protocol.specs.declared.event.Outcome.TheVariants.{Recorded, Repeat, Refused, Done, NotPossible}
use Rattle.protocol.specs.declared.event.WorldEvent.{WorldEvent}
use Rattle.protocol.specs.declared.event.WorldEvent.TheVariants.{Take}
use Rattle.protocol.specs.AtLog.{ledger}
use Rattle.protocol.specs.AtRegistry.{holding}
use Rattle.protocol.specs.Checks.{log_findings, acquirer_findings}
use Rattle.protocol.specs.Deciding.{Verdict, IsRepeat, IsLate, IsRefused}
use Rattle.protocol.specs.History.{Entry}
use Rattle.units.specs.Canonical.{canonical}
use Rattle.protocol.specs.Verdict.{verdict, history}
use Rattle.protocol.specs.World.{World, opening, step, outcomes}
use Rattle.test_definitions.proofs.WorkedAnswers.{au}
use Rattle.protocol.proofs.WorkedScheme.{nz, jp, nz_node, jp_node, block, block_of, all_units, nz1, nz2, scheme_s, scheme_of_one, first_of_may, a_second_before, a_day_after, propose, number, open_account, close_account, clean_up, eligible, commit, post, deliver, crash, restart, transfer, after, status, holds, position, in_account, message_at, notification, held_units, spendable_units, owed_units}

abbrev jp1 : TransactionId
jp1 = record { code = jp; number = 1; in_range = number_from 1 refl }

-- ---- JP gives half of the units back, to the account 2

abbrev returned_events : List WorldEvent
returned_events = transfer ++ propose jp 7 nz 2 (block 26 50 ∷ block 1 25 ∷ [])
    ∷ commit jp_node 1 ∷ post jp_node 1 ∷ deliver 6 ∷ commit Itl 1 ∷ post Itl 3
    ∷ deliver 7 ∷ commit nz_node 1 ∷ post nz_node 2 ∷ deliver 8 ∷ commit Itl 1 ∷ post Itl 4
    ∷ deliver 9 ∷ commit jp_node 1 ∷ post jp_node 2 ∷ deliver 10 ∷ commit Itl 1 ∷ post Itl 5 ∷ deliver 11 ∷ commit nz_node 1
    ∷ close_account nz (number 2 (lit< tt)) ∷ close_account nz (number 1 (lit< tt)) ∷ close_account jp (number 7 (lit< tt)) ∷ []

abbrev returned_world : World
returned_world = after returned_events

pub returned : outcomes (opening scheme_s) returned_events
    ≡ Recorded 0 ∷ Done ∷ Done ∷ Recorded 0 ∷ Done ∷ Done ∷ Recorded 0 ∷ Done ∷ Done ∷ Recorded 1
    ∷ Done ∷ Done ∷ Recorded 1 ∷ Done ∷ Done ∷ Recorded 2 ∷ Done ∷ Done ∷ Recorded 1 ∷ Done
    ∷ Recorded 2 ∷ Done ∷ Done ∷ Recorded 3 ∷ Done ∷ Done
    ∷ Recorded 2 ∷ Done ∷ Done ∷ Recorded 4 ∷ Done ∷ Done
    ∷ Recorded 3 ∷ Done ∷ Done ∷ Recorded 5 ∷ Done ∷ Done ∷ Recorded 3 ∷ Done
    ∷ Refused 112 ∷ Recorded 4 ∷ Refused 112 ∷ []
unfolding step verdict
returned = refl

pub returned_held : (held_units returned_world nz ≡ 50) × (held_units returned_world jp ≡ 50) × (spendable_units returned_world nz ≡ 50) × (owed_units returned_world ≡ 0)
    × (position returned_world nz 1 ≡ in_account 2) × (position returned_world nz 50 ≡ in_account 2) × (position returned_world jp 51 ≡ in_account 7) × (holds returned_world nz 51 ≡ false)
unfolding step verdict
returned_held = (refl, refl, refl, refl, refl, refl, refl, refl)

-- ---- two transfers are cancelled by one record; the second of them comes to the log first

abbrev two_expired_events : List WorldEvent
two_expired_events = propose nz 1 jp 7 (block 1 10 ∷ []) ∷ propose nz 1 jp 7 (block 11 20 ∷ []) ∷ commit nz_node 2 ∷ post nz_node 1 ∷ post nz_node 0 ∷ deliver 0 ∷ deliver 1
    ∷ commit Itl 2 ∷ clean_up a_day_after ∷ clean_up a_day_after ∷ commit Itl 1 ∷ []

pub two_cleaned_up : outcomes (opening scheme_s) two_expired_events
    ≡ Recorded 0 ∷ Recorded 1 ∷ Done ∷ Done ∷ Done ∷ Recorded 0 ∷ Recorded 1 ∷ Done ∷ Recorded 2 ∷ Repeat ∷ Done ∷ []
unfolding step verdict
two_cleaned_up = refl

pub two_cleaned_up_messages : (message_at (after two_expired_events) Itl 2 ≡ Some (notification Itl nz_node nz1 notified.Cancelled)) × (message_at (after two_expired_events) Itl 3 ≡ Some (notification Itl jp_node nz1 notified.Cancelled))
    × (message_at (after two_expired_events) Itl 4 ≡ Some (notification Itl nz_node nz2 notified.Cancelled)) × (message_at (after two_expired_events) Itl 5 ≡ Some (notification Itl jp_node nz2 notified.Cancelled))
unfolding step verdict
two_cleaned_up_messages = (refl, refl, refl, refl)

-- ---- what is not possible, what stands already, and orders about accounts and eligibility

abbrev single_orders_events : List WorldEvent
single_orders_events = crash nz_node 0 ∷ commit nz_node 0 ∷ crash nz_node 0 ∷ restart nz_node ∷ restart nz_node ∷ commit nz_node 0 ∷ commit nz_node 1 ∷ post nz_node 0 ∷ deliver 0
    ∷ Take nz_node (CleanUp first_of_may) ∷ Take Itl (Ack (number 0 (lit< tt))) ∷ clean_up first_of_may ∷ eligible nz true ∷ eligible nz false ∷ eligible nz false ∷ eligible nz true
    ∷ open_account nz (number 1 (lit< tt)) ∷ open_account nz (number 3 (lit< tt)) ∷ close_account nz (number 3 (lit< tt)) ∷ close_account nz (number 1 (lit< tt))
    ∷ close_account nz (number 2 (lit< tt)) ∷ close_account nz (number 2 (lit< tt)) ∷ open_account nz (number 2 (lit< tt)) ∷ []

pub single_orders : outcomes (opening scheme_s) single_orders_events
    ≡ Done ∷ NotPossible ∷ NotPossible ∷ Done ∷ NotPossible ∷ Done ∷ NotPossible ∷ NotPossible ∷ NotPossible
    ∷ NotPossible ∷ NotPossible ∷ Repeat ∷ Repeat ∷ Recorded 0 ∷ Repeat ∷ Recorded 1
    ∷ Refused 111 ∷ Refused 110 ∷ Refused 110 ∷ Refused 112 ∷ Recorded 0 ∷ Refused 111 ∷ Recorded 1 ∷ []
unfolding step verdict
single_orders = refl

-- ---- the tables, one message at a time

abbrev proposal_of : Node → Node → TransactionId → ProposalStatus → List RawBlock → Message
proposal_of from to t status units = record { from = from; to = to; id = t; body = Proposal (record { status = status; content = record { account = 1; acquirer = jp; to_account = 7; units = units } }) }

abbrev comes : Message → Input
comes m = Received m first_of_may

abbrev says : Node → List Input → Message → Verdict
says n journal m = verdict scheme_s n (history scheme_s n journal) (comes m)

abbrev to_jp : TransactionId → Message
to_jp t = proposal_of Itl jp_node t proposal.Checked all_units

-- JP has accepted the same units twice
abbrev both : List Input
both = comes (to_jp nz1) ∷ comes (to_jp nz2) ∷ comes (notification Itl jp_node nz1 notified.Completed) ∷ []

pub accepted_twice : (says jp_node both (notification Itl jp_node nz2 notified.Completed) ≡ IsRefused 46)
    × (says jp_node both (notification Itl jp_node nz1 notified.Completed) ≡ IsRepeat)
    × (says jp_node both (notification Itl jp_node nz1 notified.Cancelled) ≡ IsRefused 46)
    × (says jp_node both (to_jp nz1) ≡ IsRepeat)
    × (says jp_node both (proposal_of Itl jp_node nz1 proposal.Checked (block 1 99 ∷ [])) ≡ IsRefused 45)
    × (says jp_node both (proposal_of Itl jp_node nz1 proposal.Proposed all_units) ≡ IsRefused 46)
    × (says jp_node both (proposal_of nz_node jp_node nz1 proposal.Proposed all_units) ≡ IsRefused 43)
    × (says jp_node both (proposal_of Itl jp_node jp1 proposal.Checked all_units) ≡ IsRefused 44)
    × (says nz_node [] (proposal_of Itl nz_node jp1 proposal.Checked all_units) ≡ IsRefused 44)
    × (says nz_node [] (notification Itl nz_node nz1 notified.Cancelled) ≡ IsRefused 47)
    × (says jp_node [] (notification Itl jp_node nz1 notified.Accepted) ≡ IsRefused 47)
    × (says jp_node [] (notification nz_node jp_node nz1 notified.Accepted) ≡ IsRefused 43)
unfolding verdict
accepted_twice = (refl, refl, refl, refl, refl, refl, refl, refl, refl, refl, refl, refl)

-- JP has rejected the units that it has
abbrev rejecting : List Input
rejecting = comes (to_jp nz1) ∷ comes (notification Itl jp_node nz1 notified.Completed) ∷ comes (to_jp nz2) ∷ []

pub held_rejected : (says jp_node rejecting (notification Itl jp_node nz2 notified.Cancelled) ≡ IsLate)
    × (says jp_node rejecting (notification Itl jp_node nz2 notified.Completed) ≡ IsRefused 46)
    × (says jp_node rejecting (to_jp nz2) ≡ IsRepeat)
unfolding verdict
held_rejected = (refl, refl, refl)

-- ---- blocks in their canonical form

pub canonical_blocks : (canonical (block 51 100 ∷ block 1 50 ∷ []) ≡ block 1 100 ∷ [])
    × (canonical (block 61 100 ∷ block_of Cer 41 60 ∷ block 1 40 ∷ []) ≡ block 1 40 ∷ block_of Cer 41 60 ∷ block 61 100 ∷ [])
    × (canonical (block 5 5 ∷ block 1 3 ∷ []) ≡ block 1 3 ∷ block 5 5 ∷ [])
    × (canonical (block 3 3 ∷ block 1 1 ∷ block 4 4 ∷ block 2 2 ∷ []) ≡ block 1 4 ∷ [])
canonical_blocks = (refl, refl, refl, refl)

pub ranges_and_accounts : outcomes (opening scheme_s) (propose nz 1 jp 7 (block 6 5 ∷ []) ∷ propose nz 1 jp 7 (block 0 5 ∷ []) ∷ propose nz 3 jp 7 (block 1 1 ∷ []) ∷ propose nz 2 jp 7 (block 1 1 ∷ []) ∷ propose nz 1 jp 1_000_000_000 (block 1 1 ∷ [])
    ∷ propose nz 1 jp 7 (block 1_000_000_000_000_000 1_000_000_000_000_000 ∷ []) ∷ propose nz 1 jp 7 (block 1 101 ∷ []) ∷ [])
    ≡ Refused 102 ∷ Refused 102 ∷ Refused 104 ∷ Refused 105 ∷ Refused 108 ∷ Refused 102 ∷ Refused 105 ∷ []
unfolding step verdict
ranges_and_accounts = refl

-- ---- a log with room for one record

pub full_log : outcomes (opening scheme_of_one) (take 4 transfer ++ clean_up a_second_before ∷ clean_up a_day_after ∷ eligible jp true ∷ eligible jp false ∷ [])
    ≡ Recorded 0 ∷ Done ∷ Done ∷ Recorded 0 ∷ Repeat ∷ Refused 49 ∷ Repeat ∷ Refused 49 ∷ []
unfolding step verdict
full_log = refl

-- ---- findings

abbrev terms : Code → ℕ → List RawBlock → Content
terms to account units = record { account = 1; acquirer = to; to_account = account; units = units }

abbrev log_knows : List Input → List Entry
log_knows journal = history scheme_s Itl journal

abbrev finds : List Input → Content → List ℕ
finds journal k = log_findings scheme_s (ledger scheme_s (log_knows journal)) nz k

abbrev under_way : List Input
under_way = comes (proposal_of nz_node Itl nz1 proposal.Proposed (block 1 60 ∷ [])) ∷ []

abbrev was_completed : List Input
was_completed = under_way ++ comes (notification jp_node Itl nz1 notified.Accepted) ∷ comes (notification nz_node Itl nz1 notified.Completed) ∷ []

abbrev neither : List Input
neither = Eligible nz false ∷ Eligible jp false ∷ []

pub log_findings_are : (finds [] (terms jp 7 (block 1 100 ∷ [])) ≡ [])
    × (finds under_way (terms jp 7 (block 60 61 ∷ [])) ≡ 205 ∷ [])
    × (finds under_way (terms jp 7 (block 61 61 ∷ [])) ≡ [])
    × (finds was_completed (terms jp 7 (block 60 61 ∷ [])) ≡ 204 ∷ [])
    × (finds [] (terms jp 7 (block 1 5 ∷ block 5 6 ∷ [])) ≡ 202 ∷ [])
    × (finds [] (terms jp 7 (block 101 101 ∷ [])) ≡ 203 ∷ [])
    × (finds [] (terms jp 7 (block_of Rmu 100 100 ∷ [])) ≡ 206 ∷ [])
    × (finds neither (terms jp 7 (block 1 1 ∷ [])) ≡ 207 ∷ 208 ∷ [])
    × (finds neither (terms nz 2 (block 1 1 ∷ [])) ≡ 201 ∷ 207 ∷ 208 ∷ [])
    × (finds (neither ++ Eligible nz true ∷ []) (terms au 7 (block 1 1 ∷ [])) ≡ 201 ∷ [])
unfolding verdict
log_findings_are = (refl, refl, refl, refl, refl, refl, refl, refl, refl, refl)

abbrev meets : List Input → Content → List ℕ
meets journal k = acquirer_findings scheme_s jp (holding scheme_s jp (history scheme_s jp_node journal)) k

abbrev credited : List Input
credited = comes (to_jp nz1) ∷ comes (notification Itl jp_node nz1 notified.Completed) ∷ CloseAccount (number 8 (lit< tt)) ∷ []

pub acquirer_findings_are : (meets [] (terms jp 7 (block 1 100 ∷ [])) ≡ [])
    × (meets [] (terms jp 9 (block_of Rmu 1 1 ∷ [])) ≡ 301 ∷ 304 ∷ [])
    × (meets credited (terms jp 8 (block 100 101 ∷ [])) ≡ 302 ∷ 303 ∷ [])
    × (meets credited (terms jp 7 (block 101 101 ∷ block_of Cer 102 102 ∷ [])) ≡ [])
unfolding verdict
acquirer_findings_are = (refl, refl, refl, refl)
