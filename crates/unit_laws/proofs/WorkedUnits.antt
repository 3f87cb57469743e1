-- A transfer of a hundred units from account 1 of NZ to account 7 of JP: where a unit is before and after it, and in
-- which kind. Then histories for which the laws of units don't hold.
use Rattle.std.proofs.Common.{◌≡◌, ◌∙◌, ℕ, List, [], ◌∷◌, Option, Some, None, cond, inl, inr, refl, sym, ap, lit<, arith}
use Rattle.std.specs.Option.{option_map_or}
use Rattle.std.specs.Prelude.{find, option_map}
use Rattle.units.specs.Code.{same_node}
use Rattle.units.specs.declared.block.Kind.{Kind}
use Rattle.units.specs.declared.block.Kind.TheVariants.{Aau, Cer}
use Rattle.units.specs.declared.block.RawBlock.{RawBlock}
use Rattle.units.specs.declared.code.Node.{Node}
use Rattle.units.specs.declared.code.Node.TheVariants.{Itl}
use Rattle.units.proofs.Lists.Positions.{In_contains}
use Rattle.status.specs.Order.{Order}
use Rattle.wire.specs.declared.input.Input.TheVariants.{OpenAccount, Propose}
use Rattle.protocol.specs.AtRegistry.{content_of}
use Rattle.protocol.specs.Claims.{at_registry, committed_of}
use Rattle.protocol.specs.History.{Entry, Position, Transition, credits, position}
use Rattle.protocol.specs.Verdict.{verdict}
use Rattle.protocol.specs.World.{step}
use Rattle.protocol.proofs.WorkedScheme.{after, block_of, jp, number, nz, nz1, nz_node, scheme_s, transfer, unit}
use Rattle.safety.proofs.MovesAndHistories.TransitionForms.{proposed}
use Rattle.safety.proofs.WorkedLaws.WorkedMessages.{all_made, completes, first_unit, one_entry, to_jp}
use Rattle.unit_laws.specs.Arrivals.{ArriveAsProposed}
use Rattle.unit_laws.specs.Kinds.{HasItsKind, IsKind, KeepsKinds}

abbrev last_transfer : (Node → List Entry) → Option Transition
last_transfer f = find (credits jp (unit 1)) (at_registry f jp)

-- ---- one transfer

pub before : (position scheme_s nz (at_registry (committed_of (after [])) nz) (unit 1) ≡ Some (record { account = 1; kind = Aau })) × (last_transfer (committed_of (after [])) ≡ None)
before = (refl, refl)

pub afterwards : (position scheme_s jp (at_registry (committed_of (after transfer)) jp) (unit 1) ≡ Some (record { account = 7; kind = Aau }))
    × (option_map (λ (x : Transition). x.id) (last_transfer (committed_of (after transfer))) ≡ Some nz1)
unfolding step verdict
afterwards = (refl, refl)

-- ---- kinds

pub allotted_as_aau : IsKind scheme_s (unit 1) Aau
allotted_as_aau = refl

kinds_differ : Some Aau ≡ Some Cer → ⊥
kinds_differ e = cc (e)

pub not_as_cer : IsKind scheme_s (unit 1) Cer → ⊥
not_as_cer e = kinds_differ e

-- a unit that nobody was allotted has no kind
pub not_allotted : (kind : Kind) → IsKind scheme_s (unit 101) kind → ⊥
not_allotted kind e = cc (e)

-- the first unit as one of another kind
abbrev as_cer : List RawBlock
as_cer = block_of Cer 1 1 ∷ []

abbrev completes_as_cer : Transition
completes_as_cer = completes nz1 (Some (to_jp as_cer))

at_a_position : HasItsKind scheme_s (unit 1) (Some (record { account = 7; kind = Cer })) → ⊥
at_a_position h = kinds_differ (h.kind ∙ sym (ap (option_map (λ (p : Position). p.kind)) h.is))

pub held_in_another_kind : KeepsKinds scheme_s (all_made [] [] (completes_as_cer ∷ [])) → ⊥
held_in_another_kind h = at_a_position (h.held (unit 1) jp refl)

pub owed_in_another_kind : KeepsKinds scheme_s (all_made [] (completes_as_cer ∷ []) []) → ⊥
owed_in_another_kind h = at_a_position (h.owed (unit 1) nz completes_as_cer (0, lit< tt, refl) refl)

-- the log knows such a transfer, and nobody holds or owes a unit of it
pub named_in_another_kind : KeepsKinds scheme_s (all_made (completes_as_cer ∷ []) [] []) → ⊥
named_in_another_kind h = not_as_cer (h.named Itl completes_as_cer (to_jp as_cer) (0, lit< tt, refl) refl (block_of Cer 1 1) (unit 1) (0, lit< tt, refl) refl)

-- ---- arrivals

abbrev brought : List Transition
brought = completes nz1 (Some (to_jp first_unit)) ∷ []

no_order : (order : Order) → OpenAccount (number 1 (lit< tt)) ≡ Propose order → ⊥
no_order order e = cc (e)

-- NZ has recorded no order to propose it
pub never_proposed : ArriveAsProposed scheme_s (all_made [] [] brought) → ⊥
never_proposed h =
    let a = h (unit 1) jp refl in
    let among = In_contains (one_entry []) a.proposed.entry a.proposed.among in
    elim among [
      | inl e ↦ no_order a.order (ap (λ (x : Entry). x.input) e ∙ a.proposed.is)
      | inr none ↦ none
    ]

-- NZ's order names account 8 of JP, and the unit is at account 7
abbrev to_eight : Order
to_eight = record { account = 1; acquirer = jp; to_account = 8; units = first_unit }

abbrev nz_entry : Entry
nz_entry = record { input = Propose to_eight; transitions = proposed nz nz1 (content_of to_eight) ∷ [] }

abbrev proposed_to_eight : Node → List Entry
proposed_to_eight n = cond (same_node n nz_node) (nz_entry ∷ []) (all_made [] [] brought n)

one_order : (a b : Order) → Propose a ≡ Propose b → a ≡ b
one_order a b e = cc (e)

account_of : Option Position → ℕ
account_of o = option_map_or (λ (p : Position). p.account) o 0

pub at_another_account : ArriveAsProposed scheme_s proposed_to_eight → ⊥
unfolding account_of
at_another_account h =
    let a = h (unit 1) jp refl in
    let among = In_contains (nz_entry ∷ []) a.proposed.entry a.proposed.among in
    elim among [
      | inl e ↦
          let order = one_order to_eight a.order (ap (λ (x : Entry). x.input) e ∙ a.proposed.is) in
          let eight = ap (λ (o : Order). o.to_account) order in
          let here : 7 ≡ a.position.account = ap account_of a.is in
          let there = a.account in
          omega arith
      | inr none ↦ none
    ]
