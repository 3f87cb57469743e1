-- A unit's position at a registry is that of the newest transfer that brought it, or of its allotment.
use Rattle.std.specs.List.{count_by}
use Rattle.std.specs.Prelude.{find, option_map}
use Rattle.std.proofs.Common.{◌≡◌, ℕ, ◌≤◌, List, [], ◌∷◌, Bool, true, false, cond, Option, Some, None, inl, inr, refl, sym, ap, ◌∙◌, arith}
use Rattle.std.proofs.lemmas.Bool.{cases_Bool, cond-true, cond-false}
use Rattle.units.specs.Code.{same_code}
use Rattle.units.specs.declared.block.Unit.{Unit as Serial}
use Rattle.units.specs.declared.code.Code.{Code}
use Rattle.units.proofs.Same.{code_of_same}
use Rattle.scheme.specs.declared.members.Holder.{Holder}
use Rattle.scheme.specs.declared.registries.Scheme.{Scheme}
use Rattle.protocol.specs.History.{Position, Transition, credits, is_with, position, position_in}
use Rattle.protocol.specs.Registries.{allotted}
use Rattle.protocol.proofs.CountsInLists.{count_no}

-- the position that the newest credit gives the unit, or else its allotment
abbrev pub position_by : Scheme → Serial → Option Transition → Option Position
position_by scheme s None = option_map (λ (h : Holder). record { account = h.account; kind = h.kind }) (allotted scheme s)
position_by scheme s (Some x) = position_in s x.content

pub position_came : (scheme : Scheme) (c : Code) (s : Serial) (xs : List Transition) → position scheme c xs s ≡ position_by scheme s (find (credits c s) xs)
position_came scheme c s [] = refl
position_came scheme c s (x ∷ xs) =
    elim (cases_Bool (credits c s x)) [
      | inl y ↦ cond-true (credits c s x) (position_in s x.content) (position scheme c xs s) y ∙ sym (ap (position_by scheme s) (cond-true (credits c s x) (Some x) (find (credits c s) xs) y))
      | inr n ↦
          cond-false (credits c s x) (position_in s x.content) (position scheme c xs s) n ∙ position_came scheme c s xs
          ∙ sym (ap (position_by scheme s) (cond-false (credits c s x) (Some x) (find (credits c s) xs) n))
    ]

-- a unit that counts at the start was allotted to the registry
pub starts_here : (c : Code) (o : Option Holder) → 1 ≤ cond {A = ℕ} (is_with c o) 1 0 → (h : Holder) × (o ≡ Some h) × (h.registry ≡ c)
starts_here c None e = absurd (omega arith)
starts_here c (Some h) e = (h, refl, code_of_same h.registry c (go (same_code h.registry c) e))
  where
    go : (b : Bool) → 1 ≤ cond {A = ℕ} b 1 0 → b ≡ true
    go true e = refl
    go false e = absurd (omega arith)

-- where the search finds nothing, nothing passes
pub none_counted : {X : Type 0} (p : X → Bool) (xs : List X) → find p xs ≡ None → count_by p xs ≡ 0
none_counted p [] e = refl
none_counted p (x ∷ xs) e =
    elim (cases_Bool (p x)) [
      | inl y ↦ let some = sym (cond-true (p x) (Some x) (find p xs) y) ∙ e in absurd (cc (some))
      | inr n ↦ count_no p x xs n ∙ none_counted p xs (sym (cond-false (p x) (Some x) (find p xs) n) ∙ e)
    ]
