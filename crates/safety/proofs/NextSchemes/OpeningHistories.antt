-- The opening world of a scheme: no node has a history, and each allotted unit is free at its registry.
use Rattle.std.proofs.Common.{◌≡◌, ℕ, ◌+◌, List, [], true, cond, Option, Some, option_map, sym, ap, subst, ◌∙◌}
use Rattle.std.specs.Prelude.{◌==◌, ◌&&◌}
use Rattle.units.proofs.Same.{same_code-refl}
use Rattle.units.specs.declared.block.Unit.{Unit as Serial}
use Rattle.units.specs.declared.code.Code.{Code}
use Rattle.units.specs.declared.code.Node.{Node}
use Rattle.units.specs.declared.code.Node.TheVariants.{Registry}
use Rattle.wire.specs.declared.input.Input.{Input}
use Rattle.scheme.specs.declared.members.Holder.{Holder}
use Rattle.scheme.specs.declared.registries.Scheme.{Scheme}
use Rattle.protocol.specs.Claims.{live_of}
use Rattle.protocol.specs.History.{Entry, Position, at_start, holds, is_with, position, spendable, transitions_of}
use Rattle.protocol.specs.Owner.{Owns, At}
use Rattle.protocol.specs.Registries.{allotted}
use Rattle.protocol.specs.Verdict.{history}
use Rattle.protocol.specs.World.{opening}
use Rattle.safety.proofs.OwnersOfUnits.SumsOverRegistries.{start_member}
use Rattle.safety.proofs.WorldLemmas.SoundWorlds.{no_journal}
use Rattle.safety.specs.NextScheme.{IsFreeAt, IsPlaced, position_of}

pub no_history : (scheme : Scheme) (n : Node) → live_of (opening scheme) n ≡ []
no_history scheme n = ap (λ (j : List Input). history scheme n j) (no_journal scheme n)

-- an allotted unit is held at the start
starts : (next : Scheme) (s : Serial) (h : Holder) → allotted next s ≡ Some h → at_start next h.registry s ≡ 1
starts next s h is = ap (λ (o : Option Holder). cond {A = ℕ} (is_with h.registry o) 1 0) is ∙ ap (λ b. cond {A = ℕ} b 1 0) (same_code-refl h.registry)

pub starts_at : (next : Scheme) (s : Serial) (h : Holder) → allotted next s ≡ Some h → Owns next (live_of (opening next)) s (At h.registry)
starts_at next s h is =
    let one = starts next s h is in
    let none : holds next h.registry [] s ≡ true = ap (λ z. (z + 0) == (0 + 1)) one in
    (start_member next h.registry s one, subst (λ (es : List Entry). holds next h.registry (transitions_of es) s ≡ true) (sym (no_history next (Registry h.registry))) none)

free_at : (next : Scheme) (s : Serial) (h : Holder) → allotted next s ≡ Some h → IsFreeAt next (live_of (opening next)) s h.registry (Some (position_of h))
free_at next s h is =
    let one = starts next s h is in
    let none : holds next h.registry [] s ≡ true = ap (λ z. (z + 0) == (0 + 1)) one in
    let empty = sym (no_history next (Registry h.registry)) in
    record {
      owns = starts_at next s h is;
      free = subst (λ (es : List Entry). spendable next h.registry (transitions_of es) s ≡ true) empty (ap (λ b. b && true) none);
      there = subst (λ (es : List Entry). position next h.registry (transitions_of es) s ≡ Some (position_of h)) empty (ap (λ (o : Option Holder). option_map position_of o) is);
    }

pub placed_at : (next : Scheme) (s : Serial) (c : Code) (p : Option Position) → IsPlaced next s c p → IsFreeAt next (live_of (opening next)) s c p
placed_at next s c p placed =
    subst (λ q. IsFreeAt next (live_of (opening next)) s c q) (sym placed.there)
    (subst (λ d. IsFreeAt next (live_of (opening next)) s d (Some (position_of placed.holder))) placed.registry (free_at next s placed.holder placed.is))
