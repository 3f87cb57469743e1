-- The protocol's facts about a registry of a world, and about a code that the scheme lacks.
use Rattle.std.proofs.Common.{◌≡◌, ℕ, zero, suc, ◌<◌, Bool, true, false, List, [], ◌∷◌, length, get_or, Option, Some, None, is_some, cond, refl, ap, ◌∙◌, subst, arith}
use Rattle.units.specs.Code.{same_code}
use Rattle.units.specs.declared.block.Unit.{Unit as Serial}
use Rattle.units.specs.declared.code.Code.{Code}
use Rattle.units.specs.declared.code.Node.{Node}
use Rattle.units.specs.declared.code.Node.TheVariants.{Registry}
use Rattle.units.proofs.Same.{same_code-refl}
use Rattle.scheme.specs.Order.{member}
use Rattle.scheme.specs.declared.members.SchemeRegistry.{SchemeRegistry}
use Rattle.protocol.specs.Claims.{at_registry, live_of, whole}
use Rattle.protocol.specs.History.{Entry, holds, transitions_of}
use Rattle.protocol.specs.Registries.{has_member}
use Rattle.protocol.specs.Verdict.{history}
use Rattle.protocol.specs.World as worlds
use Rattle.protocol.specs.World.{World, station}
use Rattle.safety.proofs.OwnersOfUnits.SumsOverRegistries.{none_held}
use Rattle.registry_core.specs.Registry.{RegistryCoreView as RecordedStatus}
use Rattle.world.specs.RegistryLines.{registry_at}

-- a node without a station has no history
pub live_none : (w : World) (n : Node) → station w n ≡ None → live_of w n ≡ []
live_none w n e = ap (λ (o : Option worlds.Station). history w.scheme n (whole o)) e

-- ---- a registry of the scheme

-- the contract's fact about the registry that was found, or about none
pub registry_is : (w : World) (c : Code) (r : RecordedStatus) → Some r ≡ cond (has_member w.scheme c) (Some (registry_at w c)) None → r ≡ registry_at w c
registry_is w c r e = pick (has_member w.scheme c) e
  where
    pick : (b : Bool) → Some r ≡ cond b (Some (registry_at w c)) None → r ≡ registry_at w c
    pick true h = cc
    pick false h = cc

pub lacks : (w : World) (c : Code) → None ≡ cond (has_member w.scheme c) (Some (registry_at w c)) None → has_member w.scheme c ≡ false
lacks w c e = pick (has_member w.scheme c) e
  where
    pick : (b : Bool) → None ≡ cond b (Some (registry_at w c)) None → b ≡ false
    pick true h = cc
    pick false h = refl

pub holds_live : (w : World) (c : Code) (s : Serial) → has_member w.scheme c ≡ false → live_of w (Registry c) ≡ [] → holds w.scheme c (at_registry (live_of w) c) s ≡ false
holds_live w c s lacking none = ap (λ (es : List Entry). holds w.scheme c (transitions_of es) s) none ∙ none_held w.scheme c s lacking

-- each of its members is a registry of the scheme
pub has_found : (ms : List SchemeRegistry) (i : ℕ) (m : SchemeRegistry) → i < length ms → m ≡ get_or ms i m → is_some (member ms m.code) ≡ true
has_found [] i m l e = absurd (omega arith)
has_found (x ∷ ms) zero m l e = let same : same_code x.code m.code ≡ true = subst (λ (y : SchemeRegistry). same_code y.code m.code ≡ true) e (same_code-refl m.code) in rw same refl
has_found (x ∷ ms) (suc i) m l e = pick (has_found ms i m (omega arith) e) (same_code x.code m.code)
  where
    pick : is_some (member ms m.code) ≡ true → (b : Bool) → is_some (cond b (Some x) (member ms m.code)) ≡ true
    pick rest true = refl
    pick rest false = rest
