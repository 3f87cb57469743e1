-- Where a unit is held, its kind, and the transfer for which it is reserved; units of other origins and periods; and
-- how all of it is read from a tail.
use Rattle.std.proofs.Common.{◌≡◌, ℕ, true, false, List, [], ◌∷◌, ◌++◌, map, Option, Some, None, refl, lit<}
use Rattle.units.specs.declared.block.Kind.TheVariants.{Aau, Rmu, Cer}
use Rattle.units.specs.declared.block.Period.TheVariants.{Second}
use Rattle.units.specs.declared.block.RawBlock.{RawBlock}
use Rattle.units.specs.declared.code.Code.{Code}
use Rattle.units.specs.declared.code.Node.TheVariants.{Itl, Registry}
use Rattle.accounts.specs.declared.unit_holding.UnitHolding.{UnitHolding}
use Rattle.accounts.specs.declared.unit_holding.AccountStatus.{AccountStatus}
use Rattle.accounts.specs.declared.unit_holding.AccountStatus.TheVariants.{Open, Closed}
use Rattle.status.specs.declared.status.Status.TheVariants.{Proposed, Checked}
use Rattle.wire.specs.declared.input.Input.{Input}
use Rattle.wire.specs.declared.input.Input.TheVariants.{CloseAccount}
use Rattle.wire.specs.declared.message.ProposalStatus.TheVariants as proposal
use Rattle.wire.specs.declared.notified.NotifiedStatus.TheVariants as notified
use Rattle.protocol.specs.AtLog.{ledger}
use Rattle.protocol.specs.Checks.{log_findings}
use Rattle.protocol.specs.Claims.{committed_of, live_of, holders, owed}
use Rattle.protocol.specs.Held.{account_status_at, unit_holding_at}
use Rattle.protocol.specs.History.{Transition, transitions_of, stands}
use Rattle.protocol.specs.Pieces.{pieces, repeats}
use Rattle.protocol.specs.Registries.{nodes, index_of, is_node}
use Rattle.protocol.specs.Verdict.{history, verdict}
use Rattle.protocol.specs.World.{World, step}
use Rattle.std.specs.Prelude.{take}
use Rattle.protocol.proofs.WorkedScheme.{nz, jp, nz_node, jp_node, block, block_of, unit, nz1, nz2, scheme_s, number, transfer, after, notification}
use Rattle.test_definitions.proofs.ShortNames.{au, jp1, terms, to_jp, proposes, comes, orders, recorded, refused, answers}
use Rattle.test_definitions.proofs.ThreeRegistries.{au_node, jp_block, scheme_t}

-- ---- as credited last, else as allotted

-- JP has two units of each of two kinds of NZ's in account 8
abbrev credited : List Input
credited = comes (proposes Itl jp_node nz1 proposal.Checked (terms 1 jp 8 (block 1 2 ∷ block_of Cer 21 22 ∷ []))) ∷ comes (notification Itl jp_node nz1 notified.Completed) ∷ []

pub held_as_credited : answers scheme_t jp_node credited (orders 8 nz 1 (block_of Cer 21 21 ∷ block 1 1 ∷ []) ∷ orders 8 nz 1 (block 21 21 ∷ []) ∷ orders 8 nz 1 (block_of Cer 1 1 ∷ []) ∷ orders 7 nz 1 (block_of Cer 21 21 ∷ []) ∷ orders 1 nz 1 (block 1 1 ∷ []) ∷ orders 8 nz 1 (block 3 3 ∷ [])
    ∷ orders 8 nz 1 (jp_block 1 1 ∷ []) ∷ orders 7 nz 1 (jp_block 1 1 ∷ []) ∷ [])
    ≡ recorded 2 ∷ refused 105 ∷ refused 105 ∷ refused 105 ∷ refused 105 ∷ refused 105 ∷ refused 105 ∷ recorded 2 ∷ []
unfolding verdict
held_as_credited = refl

pub held_as_allotted : answers scheme_t nz_node [] (orders 1 jp 7 (block 20 20 ∷ block_of Cer 21 24 ∷ []) ∷ orders 1 jp 7 (block 21 21 ∷ []) ∷ orders 2 jp 7 (block_of Rmu 25 28 ∷ []) ∷ orders 1 jp 7 (block_of Rmu 25 25 ∷ []) ∷ orders 2 jp 7 (block 1 1 ∷ []) ∷ orders 1 jp 7 (jp_block 1 1 ∷ []) ∷ [])
    ≡ recorded 0 ∷ refused 105 ∷ recorded 0 ∷ refused 105 ∷ refused 105 ∷ refused 105 ∷ []
unfolding verdict
held_as_allotted = refl

-- NZ gave units 1 and 2, and unit 2 came back into account 2
abbrev given : List Input
given = orders 1 jp 7 (block 1 2 ∷ []) ∷ comes (notification Itl nz_node nz1 notified.Accepted) ∷ []

abbrev returned : List Input
returned = given ++ comes (proposes Itl nz_node jp1 proposal.Checked (terms 7 nz 2 (block 2 2 ∷ []))) ∷ comes (notification Itl nz_node jp1 notified.Completed) ∷ []

pub held_after_return : (answers scheme_t nz_node given (orders 1 jp 7 (block 2 3 ∷ []) ∷ orders 1 jp 7 (block 3 3 ∷ []) ∷ []) ≡ refused 105 ∷ recorded 2 ∷ [])
    × (answers scheme_t nz_node returned (orders 2 jp 7 (block 2 2 ∷ []) ∷ orders 1 jp 7 (block 2 2 ∷ []) ∷ orders 1 jp 7 (block 1 1 ∷ []) ∷ orders 2 jp 7 (block 1 1 ∷ []) ∷ CloseAccount (number 2 (lit< tt)) ∷ []) ≡ recorded 4 ∷ refused 105 ∷ refused 105 ∷ refused 105 ∷ refused 112 ∷ [])
unfolding verdict
held_after_return = (refl, refl)

-- two transfers, one of which ends
abbrev two_under_way : List Input
two_under_way = orders 1 jp 7 (block 1 2 ∷ []) ∷ orders 1 jp 7 (block 3 4 ∷ []) ∷ comes (notification Itl nz_node nz1 (notified.Rejected (303 ∷ []))) ∷ []

pub reserved_by_each : answers scheme_t nz_node two_under_way (orders 1 jp 7 (block 1 2 ∷ []) ∷ orders 1 jp 7 (block 2 3 ∷ []) ∷ orders 1 jp 7 (block 4 5 ∷ []) ∷ orders 1 jp 7 (block 5 5 ∷ []) ∷ []) ≡ recorded 3 ∷ refused 106 ∷ refused 106 ∷ recorded 3 ∷ []
unfolding verdict
reserved_by_each = refl

-- units that the scheme allots to nobody are held too, once they are credited
pub held_without_allotment : answers scheme_s jp_node (comes (proposes Itl jp_node nz1 proposal.Checked (to_jp (block 101 102 ∷ []))) ∷ comes (notification Itl jp_node nz1 notified.Completed) ∷ []) (CloseAccount (number 7 (lit< tt)) ∷ CloseAccount (number 8 (lit< tt)) ∷ []) ≡ refused 112 ∷ recorded 2 ∷ []
unfolding verdict
held_without_allotment = refl

-- ---- units of another origin or period are other units; those of another kind are the same

abbrev second : ℕ → ℕ → RawBlock
second first last = record { origin = nz; period = Second; kind = Aau; first = first; last = last }

pub other_units : (repeats (pieces (block 1 5 ∷ second 1 5 ∷ jp_block 1 5 ∷ block 6 9 ∷ [])) ≡ false)
    × (repeats (pieces (block 1 5 ∷ jp_block 5 9 ∷ block_of Rmu 5 5 ∷ [])) ≡ true)
    × (repeats (pieces (second 1 5 ∷ block 1 5 ∷ second 5 5 ∷ [])) ≡ true)
other_units = (refl, refl, refl)

pub other_units_at_nodes : (answers scheme_s nz_node [] (orders 1 jp 7 (block 1 1 ∷ second 1 1 ∷ []) ∷ orders 1 jp 7 (block 1 1 ∷ jp_block 1 1 ∷ []) ∷ []) ≡ refused 105 ∷ refused 105 ∷ [])
    × (answers scheme_s jp_node [] (comes (proposes Itl jp_node nz1 proposal.Checked (to_jp (block 1 1 ∷ second 1 1 ∷ jp_block 1 1 ∷ []))) ∷ []) ≡ recorded 0 ∷ [])
    × (log_findings scheme_s (ledger scheme_s []) nz (to_jp (block 1 1 ∷ second 1 1 ∷ [])) ≡ 203 ∷ [])
unfolding verdict
other_units_at_nodes = (refl, refl, refl)

-- ---- where units are, in a world: before, on the way, after

abbrev counts_in : World → ℕ → List ℕ
counts_in w n = holders w.scheme (live_of w) (unit n) ∷ owed w.scheme (live_of w) (unit n) ∷ []

pub one_place : (map (counts_in (after [])) (1 ∷ 100 ∷ 101 ∷ []) ≡ (1 ∷ 0 ∷ []) ∷ (1 ∷ 0 ∷ []) ∷ (0 ∷ 0 ∷ []) ∷ [])
    × (map (counts_in (after (take 13 transfer))) (1 ∷ 100 ∷ 101 ∷ []) ≡ (0 ∷ 1 ∷ []) ∷ (0 ∷ 1 ∷ []) ∷ (0 ∷ 0 ∷ []) ∷ [])
    × (map (counts_in (after transfer)) (1 ∷ 100 ∷ 101 ∷ []) ≡ (1 ∷ 0 ∷ []) ∷ (1 ∷ 0 ∷ []) ∷ (0 ∷ 0 ∷ []) ∷ [])
unfolding step verdict
one_place = (refl, refl, refl)

-- ---- the live view has the tail, the committed one hasn't

pub tails_in_views : (stands (transitions_of (live_of (after (take 1 transfer)) nz_node)) nz1 ≡ Some Proposed)
    × (stands (transitions_of (committed_of (after (take 1 transfer)) nz_node)) nz1 ≡ None)
    × (stands (transitions_of (committed_of (after (take 2 transfer)) nz_node)) nz1 ≡ Some Proposed)
    × (stands (transitions_of (live_of (after (take 4 transfer)) Itl)) nz1 ≡ Some Checked)
    × (stands (transitions_of (committed_of (after (take 4 transfer)) Itl)) nz1 ≡ None)
    × (stands (transitions_of (live_of (after (take 4 transfer)) au_node)) nz1 ≡ None)
unfolding step verdict
tails_in_views = (refl, refl, refl, refl, refl, refl)

-- ---- the nodes of a scheme, and their indices

pub nodes_in_order : (nodes scheme_t ≡ Itl ∷ au_node ∷ jp_node ∷ nz_node ∷ []) × (map (index_of scheme_t) (Itl ∷ au_node ∷ jp_node ∷ nz_node ∷ []) ≡ Some 0 ∷ Some 1 ∷ Some 2 ∷ Some 3 ∷ [])
    × (index_of scheme_s (Registry au) ≡ None) × (map (is_node scheme_s) (Itl ∷ jp_node ∷ nz_node ∷ Registry au ∷ []) ≡ true ∷ true ∷ true ∷ false ∷ [])
nodes_in_order = (refl, refl, refl, refl)

-- ---- as tables have it: each unit's account, kind and transfer, and each account that the registry has

-- NZ gave unit 1 and reserves units 2 and 3
abbrev given_and_reserved : List Transition
given_and_reserved = transitions_of (history scheme_t nz_node (orders 1 jp 7 (block 1 1 ∷ []) ∷ comes (notification Itl nz_node nz1 notified.Accepted) ∷ orders 1 jp 7 (block 2 3 ∷ []) ∷ []))

abbrev held_by : Code → List Transition → ℕ → Option UnitHolding
held_by c xs n = unit_holding_at scheme_t c xs (unit n)

pub held_at_the_start : (held_by nz [] 1 ≡ Some (record { account = 1; kind = Aau; reserving = None })) × (held_by nz [] 21 ≡ Some (record { account = 1; kind = Cer; reserving = None })) × (held_by jp [] 1 ≡ None)
held_at_the_start = (refl, refl, refl)

pub held_afterwards : (held_by nz given_and_reserved 1 ≡ None) × (held_by nz given_and_reserved 3 ≡ Some (record { account = 1; kind = Aau; reserving = Some nz2 })) × (held_by nz given_and_reserved 4 ≡ Some (record { account = 1; kind = Aau; reserving = None }))
unfolding verdict
held_afterwards = (refl, refl, refl)

abbrev account_of_jp : List Input → ℕ → Option AccountStatus
account_of_jp journal n = account_status_at scheme_t jp (history scheme_t jp_node journal) n

pub accounts_stand : (account_of_jp [] 8 ≡ Some Open) × (account_of_jp (CloseAccount (number 8 (lit< tt)) ∷ []) 8 ≡ Some Closed) × (account_of_jp (CloseAccount (number 8 (lit< tt)) ∷ []) 1 ≡ Some Open) × (account_of_jp [] 9 ≡ None)
unfolding verdict
accounts_stand = (refl, refl, refl, refl)
