-- A scheme is its own next one where nothing has happened yet.
use Rattle.std.proofs.Common.{◌≡◌, ℕ, ◌+◌, List, [], Bool, true, false, cond, Option, Some, None, option_map, refl, sym, subst}
use Rattle.std.specs.Prelude.{◌==◌}
use Rattle.units.proofs.Same.{code_of_same}
use Rattle.units.specs.Code.{same_code}
use Rattle.units.specs.declared.block.Unit.{Unit as Serial}
use Rattle.units.specs.declared.code.Code.{Code}
use Rattle.units.specs.declared.code.Node.TheVariants.{Registry}
use Rattle.status.specs.declared.id.TransactionId.{TransactionId}
use Rattle.scheme.specs.declared.members.Holder.{Holder}
use Rattle.scheme.specs.declared.registries.Scheme.{Scheme}
use Rattle.protocol.specs.Claims.{live_of}
use Rattle.protocol.specs.History.{Entry, Transition, holds, is_with, newest, position, transitions_of}
use Rattle.protocol.specs.Registries.{allotted}
use Rattle.protocol.specs.World.{opening}
use Rattle.safety.proofs.NextSchemes.OpeningHistories.{no_history}
use Rattle.safety.specs.NextScheme.{IsNext, IsPlaced, position_of}

at_start_placed : (scheme : Scheme) (c : Code) (s : Serial) → holds scheme c [] s ≡ true → IsPlaced scheme s c (position scheme c [] s)
at_start_placed scheme c s h = go (allotted scheme s) refl h
  where
    here : (k : Holder) → allotted scheme s ≡ Some k → (b : Bool) → same_code k.registry c ≡ b → ((cond {A = ℕ} b 1 0 + 0) == (0 + 1)) ≡ true → IsPlaced scheme s c (Some (position_of k))
    here k e true y d = record { holder = k; is = e; registry = code_of_same k.registry c y; there = refl }
    here k e false y d = absurd (cc (d))

    go : (o : Option Holder) → allotted scheme s ≡ o → ((cond {A = ℕ} (is_with c o) 1 0 + 0) == (0 + 1)) ≡ true → IsPlaced scheme s c (option_map position_of o)
    go None e d = absurd (cc (d))
    go (Some k) e d = here k e (same_code k.registry c) refl d

placed : (scheme : Scheme) (c : Code) (s : Serial) (es : List Entry) → es ≡ [] → holds scheme c (transitions_of es) s ≡ true → IsPlaced scheme s c (position scheme c (transitions_of es) s)
placed scheme c s es e h =
    subst (λ (z : List Entry). IsPlaced scheme s c (position scheme c (transitions_of z) s)) (sym e)
    (at_start_placed scheme c s (subst (λ (z : List Entry). holds scheme c (transitions_of z) s ≡ true) e h))

unknown : (es : List Entry) (t : TransactionId) (x : Transition) → es ≡ [] → newest (transitions_of es) t ≡ Some x → ⊥
unknown es t x e is = let none : None ≡ Some x = subst (λ (z : List Entry). newest (transitions_of z) t ≡ Some x) e is in cc (none)

pub follows_opening : (scheme : Scheme) → IsNext scheme (live_of (opening scheme)) [] scheme
follows_opening scheme = record {
  held = λ s c there h. placed scheme c s (live_of (opening scheme) (Registry c)) (no_history scheme (Registry c)) h;
  owed = λ s t owing. absurd (unknown (live_of (opening scheme) (Registry t.code)) t owing.last (no_history scheme (Registry t.code)) owing.is);
  new = λ s none. none;
  fresh = λ s among. absurd (cc (among));
  apart = tt;
}
