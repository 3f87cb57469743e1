-- A transfer from NZ, which is trusted, to JP, which is a stranger: where its units are after each step. Then histories
-- and bags for which a claim about trusted nodes doesn't hold.
use Rattle.std.proofs.Common.{◌≡◌, ◌⊎◌, ◌∙◌, ℕ, zero, suc, ◌<◌, Bool, true, false, not, List, [], ◌∷◌, ◌++◌, Option, Some, None, is_some, inl, inr, refl, sym, ap, arith, lit<, lit≤}
use Rattle.std.specs.Option.{option_map_or}
use Rattle.std.specs.Prelude.{slice_get, take}
use Rattle.units.specs.Code.{same_node}
use Rattle.units.specs.declared.code.Code.{Code}
use Rattle.units.specs.declared.code.Node.{Node}
use Rattle.units.specs.declared.code.Node.TheVariants.{Itl}
use Rattle.status.specs.declared.moment.Moment.{Moment}
use Rattle.wire.specs.declared.input.Input.{Input}
use Rattle.wire.specs.declared.input.Input.TheVariants.{Received, Request}
use Rattle.status.specs.declared.status.Status.TheVariants.{Rejected}
use Rattle.wire.specs.declared.message.Message.{Message}
use Rattle.wire.specs.declared.message.ProposalStatus.TheVariants as proposal
use Rattle.wire.specs.declared.notified.NotifiedStatus.TheVariants as notified
use Rattle.protocol.specs.declared.event.Outcome.TheVariants.{Recorded, Refused}
use Rattle.protocol.specs.declared.event.Posted.{Posted}
use Rattle.protocol.specs.declared.event.WorldEvent.{WorldEvent}
use Rattle.protocol.specs.Claims.{StandsAt, at_registry, committed_of, live_of}
use Rattle.protocol.specs.History.{Entry, Transition, book_owner, holds, transitions_of}
use Rattle.protocol.specs.Verdict.{verdict}
use Rattle.protocol.specs.World.{World, opening, run, step}
use Rattle.protocol.proofs.MessageForms.{received}
use Rattle.protocol.proofs.WorkedScheme.{all_units, block, commit, deliver, first_of_may, jp, jp_node, notification, nz, nz1, nz_node, post, propose, scheme_s, unit, codes_differ}
use Rattle.safety.specs.Strangers.{AreStrange, opening_among}
use Rattle.safety.specs.Trust.{Accounted, AgreesAmong, BookIsWhole, DeliversWelcomeAmong, HolderOwnsAmong, IsHandover, OnePlaceAmong, SpentOnceAmong, coming, leaving, place}
use Rattle.safety.proofs.WorkedLaws.WorkedMessages.{all_made, completes, first_unit, jp1, one_entry, proposes, to_jp, to_nz}

-- the log and NZ are trusted
abbrev trusts : Node → Bool
trusts n = not (same_node n jp_node)

abbrev trusts_all : Node → Bool
trusts_all n = true

-- ---- the stranger says Accepted, and has recorded nothing

abbrev said : Message
said = notification jp_node Itl nz1 notified.Accepted

abbrev among : List WorldEvent → World
among events = run (opening_among scheme_s (said ∷ [])) events

abbrev passed_on : List WorldEvent
passed_on = propose nz 1 jp 7 all_units ∷ commit nz_node 1 ∷ post nz_node 0 ∷ deliver 1 ∷ commit Itl 1 ∷ []

-- the message of the stranger is the first of the bag
abbrev accepted : World
accepted = among (passed_on ++ deliver 0 ∷ commit Itl 1 ∷ [])

abbrev left : World
left = run accepted (post Itl 1 ∷ deliver 2 ∷ commit nz_node 1 ∷ [])

abbrev completed : World
completed = run left (post nz_node 1 ∷ deliver 3 ∷ commit Itl 1 ∷ [])

abbrev owner_in : World → ℕ → Option Code
owner_in w n = book_owner scheme_s (transitions_of (committed_of w Itl)) (unit n)

abbrev held_in : World → ℕ → Bool
held_in w n = holds scheme_s nz (at_registry (committed_of w) nz) (unit n)

pub the_first_of_the_bag : slice_get (among []).bag 0 ≡ Some (record { node = jp_node; key = 0; message = said })
the_first_of_the_bag = refl

pub while_accepted : (owner_in accepted 1 ≡ Some nz) × (held_in accepted 1 ≡ true) × (leaving (committed_of accepted) nz (unit 1) ≡ 0) × (coming (committed_of accepted) jp (unit 1) ≡ 0)
unfolding step verdict
while_accepted = (refl, refl, refl, refl)

pub while_it_leaves : (owner_in left 1 ≡ Some nz) × (held_in left 1 ≡ false) × (leaving (committed_of left) nz (unit 1) ≡ 1) × (coming (committed_of left) jp (unit 1) ≡ 0)
unfolding step verdict
while_it_leaves = (refl, refl, refl, refl)

pub while_it_comes : (owner_in completed 1 ≡ Some jp) × (held_in completed 1 ≡ false) × (leaving (committed_of completed) nz (unit 1) ≡ 0) × (coming (committed_of completed) jp (unit 1) ≡ 1)
unfolding step verdict
while_it_comes = (refl, refl, refl, refl)

-- a unit that nobody was allotted is nowhere
pub not_allotted : (owner_in completed 101 ≡ None) × (leaving (committed_of left) nz (unit 101) ≡ 0) × (coming (committed_of completed) jp (unit 101) ≡ 0)
unfolding step verdict
not_allotted = (refl, refl, refl)

-- NZ's place has what it holds or what leaves it, the stranger's what the book gives it
pub places : (place trusts scheme_s (committed_of accepted) (unit 1) nz ≡ 1)
    × (place trusts scheme_s (committed_of left) (unit 1) nz ≡ 1)
    × (place trusts scheme_s (committed_of left) (unit 1) jp ≡ 0)
    × (place trusts scheme_s (committed_of completed) (unit 1) nz ≡ 0)
    × (place trusts scheme_s (committed_of completed) (unit 1) jp ≡ 1)
unfolding step verdict
places = (refl, refl, refl, refl, refl)

-- ---- messages of strangers

nodes_differ : jp_node ≡ nz_node → ⊥
nodes_differ e = let b : false ≡ true = ap (λ n. same_node n nz_node) e in cc (b)

abbrev code_in : Option Code → Code
code_in o = option_map_or (λ c. c) o nz

pub of_a_stranger : AreStrange trusts (said ∷ [])
of_a_stranger m (zero, low, is) = ap (λ (z : Message). trusts z.from) (sym is)
of_a_stranger m (suc k, low, is) = absurd (omega (arith, low))

pub in_a_trusted_name : AreStrange trusts (notification nz_node Itl nz1 notified.Completed ∷ []) → ⊥
in_a_trusted_name h = let e : true ≡ false = h (notification nz_node Itl nz1 notified.Completed) (0, lit< tt, refl) in cc (e)

-- ---- agreement

-- NZ stands Rejected, and JP Completed
abbrev apart : Node → List Entry
apart = all_made [] (record { id = nz1; new = Rejected; content = None; moment = 0; messages = [] } ∷ []) (completes nz1 None ∷ [])

pub rejected_and_completed : AgreesAmong trusts_all apart → ⊥
rejected_and_completed h = h nz1 jp_node nz_node refl refl refl (inl refl)

-- ---- accounts

abbrev brought : List Transition
brought = completes nz1 (Some (to_jp first_unit)) ∷ []

pub held_and_not_booked : Accounted scheme_s (all_made [] [] brought) jp → ⊥
held_and_not_booked h = let e : ◌≡◌ {A = ℕ} 1 0 = h (unit 1) in omega arith

pub held_and_booked_for_another : Accounted scheme_s (all_made brought [] brought) nz → ⊥
held_and_booked_for_another h = let e : ◌≡◌ {A = ℕ} 1 0 = h (unit 1) in omega arith

-- the transfer that leaves is of another unit
pub neither_held_nor_leaving : Accounted scheme_s (all_made [] (completes nz1 (Some (to_jp first_unit)) ∷ completes nz1 (Some (to_jp first_unit)) ∷ []) []) nz → ⊥
neither_held_nor_leaving h = let e : ◌≡◌ {A = ℕ} 2 1 = h (unit 1) in omega arith

-- ---- the book

pub of_nobody : BookIsWhole scheme_s (completes nz1 (Some (to_jp (block 101 101 ∷ []))) ∷ []) → ⊥
of_nobody h = let e : true ≡ false = (h (unit 101)).0 in cc (e)

-- U is 85
abbrev uu : Code
uu = record { first = 85; second = 85; letters = ((lit≤ tt, lit≤ tt), (lit≤ tt, lit≤ tt)) }

pub of_no_member : BookIsWhole scheme_s (completes nz1 (Some (record { account = 1; acquirer = uu; to_account = 7; units = first_unit })) ∷ []) → ⊥
of_no_member h = let e : false ≡ true = (h (unit 1)).1 uu refl in cc (e)

pub by_a_request : (moment : Moment) → IsHandover scheme_s [] (Request nz1) (unit 1) nz jp → ⊥
by_a_request moment h = let e : Request nz1 ≡ Received h.message h.moment = h.is in cc (e)

-- the completion of a stranger moves nothing of NZ
pub by_the_acquirer : (d : Code) → IsHandover scheme_s [] (Received (notification jp_node Itl nz1 notified.Completed) first_of_may) (unit 1) nz d → ⊥
by_the_acquirer d h =
    let same : notification jp_node Itl nz1 notified.Completed ≡ h.message = received h.is in
    let e : jp_node ≡ nz_node = ap (λ (z : Message). z.from) same ∙ h.from in
    nodes_differ e

-- ---- one place, spent once, holders own

pub in_two_places : OnePlaceAmong trusts_all scheme_s (all_made [] [] brought) → ⊥
in_two_places h = let e : ◌≡◌ {A = ℕ} 2 1 = h (unit 1) in omega arith

pub of_a_stranger_and_held : OnePlaceAmong trusts scheme_s (all_made brought [] []) → ⊥
of_a_stranger_and_held h = let e : ◌≡◌ {A = ℕ} 2 1 = h (unit 1) in omega arith

pub spendable_twice : SpentOnceAmong trusts_all scheme_s (all_made [] [] brought) → ⊥
spendable_twice h = codes_differ (sym (h (unit 1) nz jp refl refl refl refl))

pub held_and_not_owned : HolderOwnsAmong trusts_all scheme_s (all_made [] [] brought) → ⊥
held_and_not_owned h = codes_differ (sym (ap code_in (h (unit 1) jp refl refl)))

-- ---- deliveries

-- the log refuses it by 47, as it knows no such transaction
abbrev forged : World
forged = opening_among scheme_s (said ∷ [])

pub refused_among_trusted : DeliversWelcomeAmong trusts_all forged → ⊥
unfolding step verdict
refused_among_trusted h = let e : ◌≡◌ {A = ℕ} 47 49 = h 0 first_of_may 47 (record { node = jp_node; key = 0; message = said }) refl refl refl refl in omega arith

pub refused_of_a_stranger : DeliversWelcomeAmong trusts forged
refused_of_a_stranger zero moment code p at from to outcome = let e : false ≡ true = ap (λ (z : Option Posted). option_map_or (λ q. trusts q.message.from) z true) at ∙ from in cc (e)
refused_of_a_stranger (suc k) moment code p at from to outcome = let e : None ≡ Some p = at in cc (e)
