-- Who owns a unit before a transfer, on the way and after it; histories with two owners; and worlds that are not at
-- rest.
use Rattle.std.proofs.Common.{◌≡◌, ◌⊎◌, ℕ, ◌+◌, ◌≤◌, Bool, true, false, List, [], ◌∷◌, Option, Some, None, inl, inr, refl, ap, ◌∙◌, arith}
use Rattle.std.specs.Prelude.{take}
use Rattle.std.specs.Option.{option_map_or}
use Rattle.units.specs.declared.code.Node.{Node}
use Rattle.units.specs.declared.code.Node.TheVariants.{Itl}
use Rattle.status.specs.Content.{Content}
use Rattle.status.specs.declared.status.Status.{Status}
use Rattle.status.specs.declared.status.Status.TheVariants.{Proposed, Checked, Accepted, Completed}
use Rattle.wire.specs.declared.input.Input.{Input}
use Rattle.protocol.specs.Claims.{is_received, live_of}
use Rattle.protocol.specs.History.{Entry, Transition, carries}
use Rattle.protocol.specs.Owner.{Owner, At, Due, Owing, Owns, OneOwner, OwnersMove, Completes, Moves, sends_off, takes_in}
use Rattle.protocol.specs.Verdict.{verdict}
use Rattle.protocol.specs.WayOut.{AtRest, HasRoom, IsIdle, IsOpen, OnlyTransport}
use Rattle.protocol.specs.World.{Station, opening, opening_station, step}
use Rattle.protocol.proofs.WorkedScheme.{nz, jp, nz_node, jp_node, block, unit, nz1, scheme_s, propose, commit, post, deliver, crash, restart, clean_up, ten_days_after, transfer, after}
use Rattle.test_definitions.proofs.ShortNames.{au, orders, to_jp, both_have, told_jp, first_unit, both_made}

-- ---- before a transfer of a unit is completed, on the way, and after it

abbrev made : Status → Transition
made new = record { id = nz1; new = new; content = Some first_unit; moment = 0; messages = [] }

abbrev before : Node → List Entry
before = both_made (made Proposed ∷ []) (made Accepted ∷ [])

-- NZ has completed it, JP hasn't
abbrev on_the_way : Node → List Entry
on_the_way = both_made (made Completed ∷ made Proposed ∷ []) (made Accepted ∷ [])

abbrev at_the_end : Node → List Entry
at_the_end = both_made (made Completed ∷ made Proposed ∷ []) (made Completed ∷ made Accepted ∷ [])

pub owned_before : Owns scheme_s before (unit 1) (At nz)
owned_before = (refl, refl)

pub owing : Owing on_the_way (unit 1) nz1
owing = record { last = made Completed; is = refl; new = refl; has = refl; waits = refl }

pub owned_after : Owns scheme_s at_the_end (unit 1) (At jp)
owned_after = (refl, refl)

-- ---- no debt before it is completed, after it was received, and for a unit that isn't in it

abbrev status_in : Option Transition → Status
status_in last = option_map_or (λ x. x.new) last Checked

abbrev content_in : Option Transition → Option Content
content_in last = option_map_or (λ x. x.content) last None

abbrev has_second : Option Transition → Bool
has_second last = option_map_or (λ x. carries x (unit 2)) last true

pub no_debt_before : Owing before (unit 1) nz1 → ⊥
no_debt_before o = let e : Proposed ≡ Completed = ap status_in o.is ∙ o.new in cc (e)

pub no_debt_after : Owing at_the_end (unit 1) nz1 → ⊥
no_debt_after o = let e : true ≡ false = ap (is_received at_the_end nz1) (ap content_in o.is) ∙ o.waits in cc (e)

pub no_debt_of_others : Owing on_the_way (unit 2) nz1 → ⊥
no_debt_of_others o = let e : false ≡ true = ap has_second o.is ∙ o.has in cc (e)

-- ---- a registry that doesn't hold it doesn't own it, nor does a node that is no registry of the scheme

pub not_owned_by_jp : Owns scheme_s before (unit 1) (At jp) → ⊥
not_owned_by_jp h = let e : false ≡ true = h.1 in cc (e)

pub not_owned_by_au : Owns scheme_s before (unit 1) (At au) → ⊥
not_owned_by_au h = let e : false ≡ true = h.0 in cc (e)

-- ---- two owners, and one of a unit of nobody

abbrev letter_of : Owner → ℕ
letter_of (At c) = c.first
letter_of (Due t) = 0

pub two_owners : OneOwner scheme_s (both_have [] (told_jp nz1 first_unit)) → ⊥
unfolding verdict
two_owners h = let e : ◌≡◌ {A = ℕ} 78 74 = ap letter_of (h.one (unit 1) (At nz) (At jp) (refl, refl) (refl, refl)) in omega arith

pub owner_of_nothing : OneOwner scheme_s (both_have [] (told_jp nz1 (to_jp (block 101 101 ∷ [])))) → ⊥
unfolding verdict
owner_of_nothing h = h.none (unit 101) (At jp) refl (refl, refl)

-- an allotted unit has some owner
pub some_owner : OneOwner scheme_s before → (a : Owner) × Owns scheme_s before (unit 1) a
some_owner h = h.some (unit 1) refl

-- ---- the moves of a transfer

-- an owner at both ends stayed, or moved to itself
pub one_of_two : OwnersMove scheme_s before before → (At nz ≡ At nz) ⊎ Moves before before (unit 1) (At nz) (At nz)
one_of_two h = h (unit 1) (At nz) (At nz) (refl, refl) (refl, refl)

proposed_before : Some Proposed ≡ Some Completed → ⊥
proposed_before e = cc (e)

accepted_before : Some Accepted ≡ Some Completed → ⊥
accepted_before e = cc (e)

pub handed_over : Moves before on_the_way (unit 1) (At nz) (Due nz1)
handed_over = sends_off nz1 (record { last = made Completed; is = refl; new = refl; has = refl; before = proposed_before })

pub taken_in : Moves on_the_way at_the_end (unit 1) (Due nz1) (At jp)
taken_in = takes_in nz1 jp (record { last = made Completed; is = refl; new = refl; has = refl; before = accepted_before }) refl

-- a registry that had completed it before doesn't complete it again
pub not_again : Completes at_the_end at_the_end jp_node nz1 (unit 1) → ⊥
not_again c = c.before refl

-- ---- open transactions, idle nodes

pub open_at_each : IsOpen (live_of (after (take 1 transfer))) nz1 × IsOpen (live_of (after (take 4 transfer))) nz1 × IsOpen (live_of (after (take 7 transfer))) nz1
unfolding step verdict
open_at_each = ((nz_node, Proposed, refl, inl refl), (Itl, Checked, refl, inr (inl refl)), (jp_node, Accepted, refl, inr (inr refl)))

pub idle_at_first : IsIdle (opening scheme_s) nz_node
idle_at_first = record { at = opening_station nz_node; is = refl; runs = refl; settled = refl }

abbrev the_order : Input
the_order = orders 1 jp 7 (block 1 100 ∷ [])

pub not_idle_with_a_tail : IsIdle (after (take 1 transfer)) nz_node → ⊥
unfolding step verdict
not_idle_with_a_tail i =
    let e : the_order ∷ [] ≡ [] = ap (λ (s : Option Station). option_map_or (λ x. x.tail) s []) i.is ∙ i.settled in
    cc (e)

pub not_idle_when_stopped : IsIdle (after (crash nz_node 0 ∷ [])) nz_node → ⊥
unfolding step verdict
not_idle_when_stopped i =
    let e : false ≡ true = ap (λ (s : Option Station). option_map_or (λ x. x.runs) s true) i.is ∙ i.runs in
    cc (e)

-- ---- no world at rest: a node with a tail, and an open transaction

pub no_rest_with_a_tail : AtRest (after (take 1 transfer)) → ⊥
unfolding step verdict
no_rest_with_a_tail rest = not_idle_with_a_tail (rest.idle nz_node refl)

pub no_rest_while_open : AtRest (after (take 2 transfer)) → ⊥
unfolding step verdict
no_rest_while_open rest = rest.closed nz1 (nz_node, Proposed, refl, inl refl)

-- ---- room, and events of transport

pub no_room : HasRoom (after (take 1 transfer)) 1000 → ⊥
unfolding step verdict
no_room h = let e : 1 + 1000 ≤ 1000 = h nz_node in omega arith

pub transport : OnlyTransport (commit nz_node 1 ∷ post nz_node 0 ∷ deliver 0 ∷ restart jp_node ∷ [])
transport = tt

pub no_transport : (OnlyTransport (post nz_node 0 ∷ crash nz_node 0 ∷ []) → ⊥) × (OnlyTransport (propose nz 1 jp 7 (block 1 1 ∷ []) ∷ []) → ⊥) × (OnlyTransport (deliver 0 ∷ clean_up ten_days_after ∷ []) → ⊥)
no_transport = (λ h. h, λ h. h, λ h. h)
