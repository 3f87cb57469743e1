-- Findings of the log and of an acquirer: all at once, then one less each time; each alone, and beside a case that is
-- none.
use Rattle.std.proofs.Common.{◌≡◌, ℕ, true, false, List, [], ◌∷◌, ◌++◌, Some, refl, lit<}
use Rattle.units.specs.declared.block.Kind.TheVariants.{Rmu, Cer}
use Rattle.units.specs.declared.block.RawBlock.{RawBlock}
use Rattle.units.specs.declared.code.Code.{Code}
use Rattle.units.specs.declared.code.Node.TheVariants.{Itl}
use Rattle.status.specs.Content.{Content}
use Rattle.status.specs.declared.status.Status.TheVariants.{Rejected}
use Rattle.wire.specs.declared.input.Input.{Input}
use Rattle.wire.specs.declared.input.Input.TheVariants.{CloseAccount, OpenAccount, CleanUp, Eligible}
use Rattle.wire.specs.declared.message.ProposalStatus.TheVariants as proposal
use Rattle.wire.specs.declared.notified.NotifiedStatus.TheVariants as notified
use Rattle.protocol.specs.AtLog.{ledger}
use Rattle.protocol.specs.AtRegistry.{holding}
use Rattle.protocol.specs.Checks.{log_findings, acquirer_findings}
use Rattle.protocol.specs.Verdict.{verdict, history}
use Rattle.protocol.proofs.WorkedScheme.{nz, jp, nz_node, jp_node, block, block_of, nz1, nz2, scheme_s, a_day_after, number, notification}
use Rattle.test_definitions.proofs.ShortNames.{au, jp1, terms, proposes, asks, comes, orders, moves}
use Rattle.test_definitions.proofs.ThreeRegistries.{au_node, jp_block, scheme_t}

-- ---- at the log

-- its findings for a proposal of that initiator
abbrev finds : List Input → Code → Content → List ℕ
finds journal c k = log_findings scheme_t (ledger scheme_t (history scheme_t Itl journal)) c k

abbrev to : Code → List RawBlock → Content
to c units = terms 1 c 1 units

abbrev under_way : List Input
under_way = comes (proposes nz_node Itl nz1 proposal.Proposed (to jp (block 1 2 ∷ []))) ∷ []

-- NZ may not take part, and its units 1 and 2 are under way
abbrev barred : List Input
barred = under_way ++ Eligible nz false ∷ []

abbrev kind_differs : List RawBlock
kind_differs = block_of Cer 3 3 ∷ []

abbrev and_busy : List RawBlock
and_busy = kind_differs ++ block 2 2 ∷ []

abbrev and_of_jp : List RawBlock
and_of_jp = and_busy ++ jp_block 1 1 ∷ []

abbrev and_of_nobody : List RawBlock
and_of_nobody = and_of_jp ++ block_of Rmu 29 29 ∷ []

abbrev and_twice : List RawBlock
and_twice = and_of_nobody ++ block 5 6 ∷ block 6 7 ∷ []

pub all_findings : finds barred nz (to nz and_twice) ≡ 201 ∷ 202 ∷ 203 ∷ 204 ∷ 205 ∷ 206 ∷ 207 ∷ 208 ∷ []
unfolding verdict
all_findings = refl

pub overlap_before_not_allotted : (finds barred nz (to jp and_twice) ≡ 202 ∷ 203 ∷ 204 ∷ 205 ∷ 206 ∷ 207 ∷ []) × (finds [] nz (to jp (block_of Rmu 29 29 ∷ block 5 6 ∷ block 6 7 ∷ [])) ≡ 202 ∷ 203 ∷ [])
unfolding verdict
overlap_before_not_allotted = (refl, refl)

pub not_allotted_before_owner : (finds barred nz (to jp and_of_nobody) ≡ 203 ∷ 204 ∷ 205 ∷ 206 ∷ 207 ∷ []) × (finds [] nz (to jp (jp_block 10 11 ∷ [])) ≡ 203 ∷ 204 ∷ [])
unfolding verdict
not_allotted_before_owner = (refl, refl)

pub owner_before_busy : (finds barred nz (to jp and_of_jp) ≡ 204 ∷ 205 ∷ 206 ∷ 207 ∷ []) × (finds under_way nz (to jp (block 2 2 ∷ jp_block 1 1 ∷ [])) ≡ 204 ∷ 205 ∷ [])
unfolding verdict
owner_before_busy = (refl, refl)

pub busy_before_kind : (finds barred nz (to jp and_busy) ≡ 205 ∷ 206 ∷ 207 ∷ []) × (finds under_way nz (to jp and_busy) ≡ 205 ∷ 206 ∷ [])
unfolding verdict
busy_before_kind = (refl, refl)

pub kind_before_eligible : (finds barred nz (to jp kind_differs) ≡ 206 ∷ 207 ∷ []) × (finds barred nz (to jp (block 3 3 ∷ [])) ≡ 207 ∷ []) × (finds under_way nz (to jp (block 3 3 ∷ [])) ≡ [])
unfolding verdict
kind_before_eligible = (refl, refl, refl)

-- the acquirer is the initiator, or isn't in the scheme; AU isn't in it
pub wrong_acquirer : (finds [] nz (to nz (block 3 3 ∷ [])) ≡ 201 ∷ [])
    × (log_findings scheme_s (ledger scheme_s []) nz (to au (block 3 3 ∷ [])) ≡ 201 ∷ [])
    × (log_findings scheme_s (ledger scheme_s []) nz (to nz (block 3 3 ∷ [])) ≡ 201 ∷ [])
    × (log_findings scheme_s (ledger scheme_s []) nz (to jp (block 3 3 ∷ [])) ≡ [])
unfolding verdict
wrong_acquirer = (refl, refl, refl, refl)

-- by the scheme at the start, then by the last order for that registry
pub eligible_registries : (finds [] nz (to au (block 3 3 ∷ [])) ≡ 208 ∷ [])
    × (finds (Eligible au true ∷ []) nz (to au (block 3 3 ∷ [])) ≡ [])
    × (finds (Eligible au true ∷ Eligible au false ∷ []) nz (to au (block 3 3 ∷ [])) ≡ 208 ∷ [])
    × (finds (Eligible nz false ∷ []) nz (to au (block 3 3 ∷ [])) ≡ 207 ∷ 208 ∷ [])
    × (finds (Eligible nz false ∷ Eligible nz true ∷ Eligible jp false ∷ []) nz (to jp (block 3 3 ∷ [])) ≡ 208 ∷ [])
    × (finds [] au (to jp (block 3 3 ∷ [])) ≡ 204 ∷ 207 ∷ [])
    × (finds (Eligible au true ∷ []) au (to jp (block 3 3 ∷ [])) ≡ 204 ∷ [])
unfolding verdict
eligible_registries = (refl, refl, refl, refl, refl, refl, refl)

pub twice_and_not_allotted : (finds [] nz (to jp (block 3 4 ∷ block 9 9 ∷ block 4 5 ∷ [])) ≡ 202 ∷ [])
    × (finds [] nz (to jp (block 3 4 ∷ block_of Cer 4 4 ∷ [])) ≡ 202 ∷ 206 ∷ [])
    × (finds [] nz (to jp (block 3 4 ∷ block 5 5 ∷ [])) ≡ [])
    × (finds [] nz (to jp (block 3 3 ∷ block_of Rmu 28 29 ∷ [])) ≡ 203 ∷ [])
unfolding verdict
twice_and_not_allotted = (refl, refl, refl, refl)

pub kinds_of_allotments : (finds [] nz (to jp (block 20 21 ∷ [])) ≡ 206 ∷ []) × (finds [] nz (to jp (block_of Rmu 24 25 ∷ [])) ≡ 206 ∷ []) × (finds [] nz (to jp (block 20 20 ∷ block_of Cer 21 24 ∷ block_of Rmu 25 25 ∷ [])) ≡ [])
unfolding verdict
kinds_of_allotments = (refl, refl, refl)

-- ---- a unit of another transfer, by how that one stands

abbrev accepted : List Input
accepted = under_way ++ comes (notification jp_node Itl nz1 notified.Accepted) ∷ []

abbrev completed : List Input
completed = accepted ++ comes (notification nz_node Itl nz1 notified.Completed) ∷ []

pub busy_while_checked : (finds under_way nz (to jp (block 2 3 ∷ [])) ≡ 205 ∷ []) × (finds under_way nz (to jp (block 3 3 ∷ [])) ≡ [])
unfolding verdict
busy_while_checked = (refl, refl)

pub busy_while_accepted : (finds accepted nz (to jp (block 2 3 ∷ [])) ≡ 205 ∷ []) × (finds accepted nz (to jp (block 3 3 ∷ [])) ≡ [])
unfolding verdict
busy_while_accepted = (refl, refl)

pub free_after_the_end : (finds (under_way ++ comes (notification jp_node Itl nz1 (notified.Rejected (303 ∷ []))) ∷ []) nz (to jp (block 2 3 ∷ [])) ≡ [])
    × (finds (under_way ++ CleanUp a_day_after ∷ []) nz (to jp (block 2 3 ∷ [])) ≡ [])
    × (finds (under_way ++ comes (asks nz_node Itl nz1) ∷ []) nz (to jp (block 2 3 ∷ [])) ≡ [])
    × (finds (comes (proposes nz_node Itl nz1 proposal.Proposed (to nz (block 1 2 ∷ []))) ∷ []) nz (to jp (block 2 3 ∷ [])) ≡ [])
unfolding verdict
free_after_the_end = (refl, refl, refl, refl)

-- the book moves with the completion, to the acquirer and back, and not with the acceptance
pub owners_by_the_book : (finds completed nz (to jp (block 2 3 ∷ [])) ≡ 204 ∷ [])
    × (finds completed jp (to nz (block 2 2 ∷ [])) ≡ [])
    × (finds completed jp (to nz (block 2 3 ∷ [])) ≡ 204 ∷ [])
    × (finds accepted jp (to nz (block 2 2 ∷ [])) ≡ 204 ∷ 205 ∷ [])
    × (finds (completed ++ comes (proposes jp_node Itl jp1 proposal.Proposed (to nz (block 2 2 ∷ []))) ∷ comes (notification nz_node Itl jp1 notified.Accepted) ∷ comes (notification jp_node Itl jp1 notified.Completed) ∷ []) nz (to jp (block 2 3 ∷ [])) ≡ [])
unfolding verdict
owners_by_the_book = (refl, refl, refl, refl, refl)

-- ---- at an acquirer: JP has units 1 to 10 of its own, and takes two kinds

abbrev meets : List Input → ℕ → List RawBlock → List ℕ
meets journal account units = acquirer_findings scheme_t jp (holding scheme_t jp (history scheme_t jp_node journal)) (terms 1 jp account units)

abbrev closed : List Input
closed = CloseAccount (number 8 (lit< tt)) ∷ []

abbrev not_taken : List RawBlock
not_taken = block 1 1 ∷ block_of Rmu 25 25 ∷ block_of Cer 21 21 ∷ []

pub unknown_account_held_kind : (meets [] 9 (not_taken ++ jp_block 10 11 ∷ []) ≡ 301 ∷ 303 ∷ 304 ∷ []) × (meets [] 9 (block 1 1 ∷ []) ≡ 301 ∷ [])
unfolding verdict
unknown_account_held_kind = (refl, refl)

pub closed_account_held_kind : (meets closed 8 (not_taken ++ jp_block 10 11 ∷ []) ≡ 302 ∷ 303 ∷ 304 ∷ []) × (meets closed 8 (block 1 1 ∷ []) ≡ 302 ∷ [])
unfolding verdict
closed_account_held_kind = (refl, refl)

pub held_before_kind : (meets [] 8 (not_taken ++ jp_block 10 11 ∷ []) ≡ 303 ∷ 304 ∷ []) × (meets closed 7 (jp_block 10 11 ∷ block 1 1 ∷ []) ≡ 303 ∷ []) × (meets closed 7 (jp_block 11 12 ∷ []) ≡ [])
unfolding verdict
held_before_kind = (refl, refl, refl)

-- one block of a kind that isn't taken is enough, wherever it stands
pub one_kind_of_two : (meets [] 7 not_taken ≡ 304 ∷ []) × (meets [] 7 (block_of Rmu 25 25 ∷ block 1 1 ∷ []) ≡ 304 ∷ []) × (meets [] 7 (block 1 1 ∷ block_of Rmu 25 25 ∷ []) ≡ 304 ∷ [])
    × (meets [] 7 (block_of Rmu 25 25 ∷ []) ≡ 304 ∷ []) × (meets [] 7 (block 1 1 ∷ block_of Cer 21 21 ∷ []) ≡ [])
unfolding verdict
one_kind_of_two = (refl, refl, refl, refl, refl)

-- an account that isn't there isn't closed, regardless of the orders; one that was opened again is open
pub closed_accounts : (meets (CloseAccount (number 9 (lit< tt)) ∷ []) 9 (block 1 1 ∷ []) ≡ 301 ∷ [])
    × (meets (closed ++ OpenAccount (number 8 (lit< tt)) ∷ []) 8 (block 1 1 ∷ []) ≡ [])
    × (meets (closed ++ OpenAccount (number 8 (lit< tt)) ∷ closed) 8 (block 1 1 ∷ []) ≡ 302 ∷ [])
    × (meets (closed ++ OpenAccount (number 7 (lit< tt)) ∷ []) 8 (block 1 1 ∷ []) ≡ 302 ∷ [])
unfolding verdict
closed_accounts = (refl, refl, refl, refl)

-- held from the completion on, until the units are given away
abbrev credited : List Input
credited = comes (proposes Itl jp_node nz1 proposal.Checked (to jp (block 1 2 ∷ []))) ∷ comes (notification Itl jp_node nz1 notified.Completed) ∷ []

abbrev given : List Input
given = credited ++ orders 1 nz 1 (block 2 2 ∷ []) ∷ []

pub held_units : (meets (comes (proposes Itl jp_node nz1 proposal.Checked (to jp (block 1 2 ∷ []))) ∷ []) 7 (block 2 3 ∷ []) ≡ [])
    × (meets credited 7 (block 2 3 ∷ []) ≡ 303 ∷ [])
    × (meets credited 7 (block 3 3 ∷ []) ≡ [])
    × (meets given 7 (block 2 3 ∷ []) ≡ 303 ∷ [])
    × (meets (given ++ comes (notification Itl jp_node jp1 notified.Accepted) ∷ []) 7 (block 2 3 ∷ []) ≡ [])
    × (meets (given ++ comes (notification Itl jp_node jp1 notified.Accepted) ∷ []) 7 (block 1 1 ∷ []) ≡ 303 ∷ [])
unfolding verdict
held_units = (refl, refl, refl, refl, refl, refl)

-- the kinds are those of the registry that is asked: AU takes one kind, NZ takes all
pub kinds_by_registry : (moves scheme_t au_node [] (comes (proposes Itl au_node nz1 proposal.Checked (terms 1 au 5 (block 1 1 ∷ block_of Cer 21 21 ∷ []))))
    ≡ record { id = nz1; new = Rejected; content = Some (terms 1 au 5 (block 1 1 ∷ block_of Cer 21 21 ∷ [])); messages = notification au_node Itl nz1 (notified.Rejected (304 ∷ [])) ∷ [] } ∷ [])
    × (acquirer_findings scheme_t au (holding scheme_t au []) (terms 1 au 5 (block 1 1 ∷ [])) ≡ [])
    × (acquirer_findings scheme_t nz (holding scheme_t nz []) (terms 1 nz 7 (jp_block 1 1 ∷ [])) ≡ [])
unfolding verdict
kinds_by_registry = (refl, refl, refl)

-- all of the findings, in their order, are sent to the log
pub rejected_with_all : moves scheme_t jp_node closed (comes (proposes Itl jp_node nz2 proposal.Checked (terms 1 jp 8 (not_taken ++ jp_block 10 11 ∷ []))))
    ≡ record { id = nz2; new = Rejected; content = Some (terms 1 jp 8 (not_taken ++ jp_block 10 11 ∷ [])); messages = notification jp_node Itl nz2 (notified.Rejected (302 ∷ 303 ∷ 304 ∷ [])) ∷ [] } ∷ []
unfolding verdict
rejected_with_all = refl
