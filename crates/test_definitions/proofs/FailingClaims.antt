-- Histories for which a claim doesn't hold: a claim that could not fail would state nothing. Most histories are those
-- of forged journals, whose nodes received messages that nobody sent.
use Rattle.std.proofs.Common.{◌≡◌, ◌⊎◌, ◌∙◌, ◌&&◌, ℕ, zero, suc, ◌+◌, ◌≤◌, ◌<◌, Bool, true, false, List, [], ◌∷◌, Option, Some, None, cond, inl, inr, refl, sym, ap, subst, arith, get_or}
use Rattle.std.specs.List.{count_by}
use Rattle.std.specs.Option.{option_map_or}
use Rattle.units.specs.declared.code.Code.{Code}
use Rattle.units.specs.declared.code.Node.{Node}
use Rattle.units.specs.declared.code.Node.TheVariants.{Itl}
use Rattle.status.specs.Id.{number_from, same_id}
use Rattle.status.specs.Status.{same_status}
use Rattle.status.specs.declared.id.TransactionId.{TransactionId}
use Rattle.status.specs.declared.status.Status.TheVariants.{Proposed, Checked, Accepted, Rejected, Terminated, Cancelled, Completed}
use Rattle.wire.specs.declared.input.Input.{Input}
use Rattle.wire.specs.declared.message.ProposalStatus.TheVariants as proposal
use Rattle.wire.specs.declared.notified.NotifiedStatus.{NotifiedStatus}
use Rattle.wire.specs.declared.notified.NotifiedStatus.TheVariants as notified
use Rattle.protocol.specs.Claims.{Agrees, OnePlace, SpentOnce, HolderOwns, CountedOnce, CompletedOnce, NextIsNew, IsEnd, IsUnderWay, DeliversWelcome, TerminatesForEligibility, committed_of}
use Rattle.protocol.specs.History.{Entry, Transition, is_with, newest}
use Rattle.protocol.specs.Registries.{allotted}
use Rattle.protocol.specs.Verdict.{verdict}
use Rattle.protocol.specs.World.{World, opening, step}
use Rattle.protocol.proofs.WorkedScheme.{nz, jp, nz_node, jp_node, block, unit, nz1, scheme_s, first_of_may, notification, codes_differ}
use Rattle.test_definitions.proofs.ShortNames.{au, jp1, nz9, terms, to_jp, proposes, comes, orders, has, world_with, both_have, told_jp, first_unit, completes, one_entry, both_made}
use Rattle.test_definitions.proofs.ThreeRegistries.{au_node, scheme_t}

-- NZ orders a transfer of its first unit, and gets this notification about it
abbrev told_nz : NotifiedStatus → List Input
told_nz status = orders 1 jp 7 (block 1 1 ∷ []) ∷ comes (notification Itl nz_node nz1 status) ∷ []

-- ---- Completed at one node, and Rejected, Terminated or Cancelled at another

pub rejected_and_completed : Agrees (both_have (told_nz (notified.Rejected (303 ∷ []))) (told_jp nz1 first_unit)) → ⊥
unfolding verdict
rejected_and_completed h = h nz1 jp_node nz_node refl (inl refl)

pub terminated_and_completed : Agrees (both_have (told_nz (notified.Terminated (207 ∷ []))) (told_jp nz1 first_unit)) → ⊥
unfolding verdict
terminated_and_completed h = h nz1 jp_node nz_node refl (inr (inl refl))

pub cancelled_and_completed : Agrees (both_have (told_nz notified.Cancelled) (told_jp nz1 first_unit)) → ⊥
unfolding verdict
cancelled_and_completed h = h nz1 jp_node nz_node refl (inr (inr refl))

-- ---- units in two places, in none, and of nobody

pub in_two_places : OnePlace scheme_s (both_have [] (told_jp nz1 first_unit)) → ⊥
unfolding verdict
in_two_places h = let e : ◌≡◌ {A = ℕ} 2 1 = h (unit 1) in omega arith

pub of_nobody : OnePlace scheme_s (both_have [] (told_jp nz1 (to_jp (block 101 101 ∷ [])))) → ⊥
unfolding verdict
of_nobody h = let e : ◌≡◌ {A = ℕ} 1 0 = h (unit 101) in omega arith

-- NZ handed the unit over, and JP, which knows no content of the transfer, has it completed
pub in_no_place : OnePlace scheme_s (both_made (completes nz1 (Some first_unit) ∷ []) (completes nz1 None ∷ [])) → ⊥
in_no_place h = let e : ◌≡◌ {A = ℕ} 0 1 = h (unit 1) in omega arith

abbrev au1 : TransactionId
au1 = record { code = au; number = 1; in_range = number_from 1 refl }

abbrev at_au : List Input
at_au =
    comes (proposes Itl au_node nz1 proposal.Checked (terms 1 au 1 (block 1 1 ∷ [])))
    ∷ comes (notification Itl au_node nz1 notified.Completed)
    ∷ orders 1 jp 7 (block 1 1 ∷ [])
    ∷ comes (notification Itl au_node au1 notified.Accepted)
    ∷ []

-- NZ has its first unit, JP has it too, and AU owes it to JP after a notification that AU had it
abbrev held_and_owed : Node → List Entry
held_and_owed = committed_of (world_with scheme_t (has Itl [] ∷ has au_node at_au ∷ has jp_node (told_jp nz9 first_unit) ∷ has nz_node [] ∷ []))

pub in_two_places_and_owed : OnePlace scheme_t held_and_owed → ⊥
unfolding verdict
in_two_places_and_owed h = let e : ◌≡◌ {A = ℕ} 3 1 = h (unit 1) in omega arith

-- ---- spendable twice; held by a registry that doesn't own it

pub spendable_twice : SpentOnce scheme_s (both_have [] (told_jp nz1 first_unit)) → ⊥
unfolding verdict
spendable_twice h = codes_differ (sym (h (unit 1) nz jp refl refl))

abbrev code_in : Option Code → Code
code_in o = option_map_or (λ c. c) o nz

pub held_and_not_owned : HolderOwns scheme_s (both_have [] (told_jp nz1 first_unit)) → ⊥
unfolding verdict
held_and_not_owned h = codes_differ (sym (ap code_in (h (unit 1) jp refl)))

-- ---- transitions of one registry

abbrev give : Transition
give = completes nz1 (Some first_unit)

abbrev credit : Transition
credit = completes jp1 (Some (terms 7 nz 1 (block 1 1 ∷ [])))

pub given_twice : CountedOnce scheme_s nz (give ∷ give ∷ []) → ⊥
given_twice h = let e : 2 ≤ 1 = (h (unit 1)).0 in omega arith

pub credited_beside : CountedOnce scheme_s nz (credit ∷ []) → ⊥
credited_beside h = let e : 2 ≤ 1 = (h (unit 1)).1 in omega arith

once_or_not : (b : Bool) → (0 ≤ cond b 1 0 + 0) × (cond b 1 0 + 0 ≤ 0 + 1)
once_or_not true = (omega arith, omega arith)
once_or_not false = (omega arith, omega arith)

-- with no transition each unit is there once or not at all, as it is allotted
pub counted_at_first : CountedOnce scheme_s nz []
counted_at_first s = once_or_not (is_with nz (allotted scheme_s s))

pub completed_twice : CompletedOnce (give ∷ completes nz1 None ∷ []) → ⊥
completed_twice h = let e : ◌≡◌ {A = ℕ} 2 1 = (h give (0, (omega arith), refl) refl).1 in omega arith

abbrev cancels : TransactionId → Transition
cancels t = record { id = t; new = Cancelled; content = None; moment = 0; messages = [] }

pub completed_and_cancelled : CompletedOnce (cancels nz1 ∷ give ∷ []) → ⊥
completed_and_cancelled h =
    let e : Cancelled ≡ Completed = ap (λ o. option_map_or (λ (x : Transition). x.new) o Proposed) (h give (1, (omega arith), refl) refl).0 in
    cc (e)

-- a completed transfer counts, regardless of the records before it
abbrev over_cancelled : List Transition
over_cancelled = give ∷ cancels nz1 ∷ []

completed_at : (x : Transition) (i : ℕ) → i < 2 → get_or over_cancelled i x ≡ x → x.new ≡ Completed
    → (newest over_cancelled x.id ≡ Some x) × (count_by (λ y. same_id y.id x.id && same_status y.new Completed) over_cancelled ≡ 1)
completed_at x zero low is done = subst (λ (y : Transition). (newest over_cancelled y.id ≡ Some y) × (count_by (λ z. same_id z.id y.id && same_status z.new Completed) over_cancelled ≡ 1)) is (refl, refl)
completed_at x (suc zero) low is done = let e : Cancelled ≡ Completed = ap (λ (y : Transition). y.new) is ∙ done in cc (e)
completed_at x (suc (suc i)) low is done = absurd (omega (arith, low))

pub completed_once : CompletedOnce over_cancelled
completed_once x contained done = completed_at x contained.0 contained.1 contained.2 done

-- the registry has given no number, and knows a transaction that has its first
pub number_is_known : NextIsNew nz (one_entry (cancels nz1 ∷ [])) → ⊥
number_is_known h = let e : Some (cancels nz1) ≡ None = h nz1 refl in cc (e)

-- ---- statuses that are an end, and those under way

pub ends : IsEnd Rejected × IsEnd Terminated × IsEnd Cancelled × IsEnd Completed × (IsEnd Proposed → ⊥) × (IsEnd Checked → ⊥) × (IsEnd Accepted → ⊥)
ends = (tt, tt, tt, tt, (λ h. h), (λ h. h), (λ h. h))

pub under_way : IsUnderWay Checked × IsUnderWay Accepted
under_way = (inl refl, inr refl)

pub proposed_is_not_under_way : IsUnderWay Proposed → ⊥
proposed_is_not_under_way (inl e) = cc (e)
proposed_is_not_under_way (inr e) = cc (e)

pub completed_is_not_under_way : IsUnderWay Completed → ⊥
completed_is_not_under_way (inl e) = cc (e)
completed_is_not_under_way (inr e) = cc (e)

pub rejected_is_not_under_way : IsUnderWay Rejected → ⊥
rejected_is_not_under_way (inl e) = cc (e)
rejected_is_not_under_way (inr e) = cc (e)

-- ---- a message in the bag that the log refuses

abbrev forged : World
forged = record (opening scheme_s) { bag = record { node = jp_node; key = 0; message = notification jp_node Itl nz1 notified.Accepted } ∷ [] }

pub delivery_refused : DeliversWelcome forged → ⊥
unfolding step verdict
delivery_refused h = let e : ◌≡◌ {A = ℕ} 47 49 = h 0 first_of_may 47 refl in omega arith

-- ---- a transfer that the log ends because of its units

abbrev terminated : List ℕ → Node → List Entry
terminated found n = one_entry (record { id = nz1; new = Terminated; content = None; moment = 0; messages = notification Itl nz_node nz1 (notified.Terminated found) ∷ [] } ∷ [])

neither : (◌≡◌ {A = ℕ} 204 207) ⊎ (◌≡◌ {A = ℕ} 204 208) → ⊥
neither (inl e) = omega arith
neither (inr e) = omega arith

pub terminated_for_units : TerminatesForEligibility (terminated (204 ∷ [])) → ⊥
terminated_for_units h = neither (h (notification Itl nz_node nz1 (notified.Terminated (204 ∷ []))) (204 ∷ []) 204 (0, (omega arith), refl) refl (0, (omega arith), refl))
