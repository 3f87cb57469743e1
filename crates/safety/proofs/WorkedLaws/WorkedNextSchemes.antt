-- A scheme that is no next scheme of a world.
use Rattle.std.proofs.Common.{◌≡◌, ◌∙◌, true, false, List, [], ◌∷◌, Option, Some, refl, sym, ap}
use Rattle.std.specs.Option.{option_map_or}
use Rattle.units.specs.declared.code.Code.{Code}
use Rattle.units.specs.declared.code.Node.{Node}
use Rattle.status.specs.Content.{Content}
use Rattle.scheme.specs.declared.members.Holder.{Holder}
use Rattle.protocol.specs.Claims.{committed_of}
use Rattle.protocol.specs.History.{Entry}
use Rattle.protocol.specs.Verdict.{verdict}
use Rattle.protocol.specs.World.{step}
use Rattle.protocol.proofs.WorkedScheme.{after, hundred, jp, nz, nz1, scheme_s, transfer, unit, codes_differ}
use Rattle.safety.specs.NextScheme.{IsNext}
use Rattle.safety.proofs.WorkedLaws.WorkedMessages.{all_made, completes, first_unit, to_jp}

abbrev registry_in : Option Holder → Code
registry_in o = option_map_or (λ h. h.registry) o nz

-- after the transfer the units are at JP, and the scheme allots them to NZ
pub where_they_were : IsNext scheme_s (committed_of (after transfer)) [] scheme_s → ⊥
unfolding step verdict
where_they_were h = let p = h.held (unit 1) jp refl refl in codes_differ (sym (ap registry_in p.is ∙ p.registry))

-- NZ has completed it, and JP has not
abbrev owing : Node → List Entry
owing = all_made [] (completes nz1 (Some (to_jp first_unit)) ∷ []) []

pub back_at_the_initiator : IsNext scheme_s owing [] scheme_s → ⊥
back_at_the_initiator h =
    let p = h.owed (unit 1) nz1 (record { last = completes nz1 (Some (to_jp first_unit)); is = refl; new = refl; has = refl; waits = refl }) in
    codes_differ (sym (ap registry_in p.placed.is ∙ p.placed.registry ∙ sym (ap (λ k. option_map_or (λ (c : Content). c.acquirer) k nz) p.is)))

-- its blocks can't be added once more
pub added_twice : IsNext scheme_s (committed_of (after [])) (hundred ∷ []) scheme_s → ⊥
added_twice h = let e : true ≡ false = h.fresh (unit 1) refl in cc (e)
