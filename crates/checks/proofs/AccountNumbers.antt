-- No registry of a scheme has an account whose number is out of range.
use Rattle.std.proofs.Common.{◌≡◌, ℕ, List, [], ◌∷◌, Bool, true, false, cond, Some, inl, inr, refl, subst}
use Rattle.std.specs.Prelude.{◌||◌, ◌==◌}
use Rattle.std.specs.List.{AllByRecursion, find, list_any}
use Rattle.std.specs.Option.{option_map_or}
use Rattle.std.proofs.lemmas.Bool.{cases_Bool, eqb-true}
use Rattle.units.specs.Code.{same_code}
use Rattle.units.specs.Facts.{IsAccountNumber}
use Rattle.units.specs.declared.code.Code.{Code}
use Rattle.scheme.specs.Order.{AreNumbered}
use Rattle.scheme.specs.Order as order
use Rattle.scheme.specs.declared.members.SchemeRegistry.{SchemeRegistry}
use Rattle.scheme.specs.declared.registries.Scheme.{Scheme}
use Rattle.protocol.specs.Registries.{has_account}

account_numbered : (ns : List ℕ) (account : ℕ) → AllByRecursion IsAccountNumber ns → list_any (λ n. n == account) ns ≡ true → IsAccountNumber account
account_numbered [] account all e = absurd cc
account_numbered (n ∷ ns) account all e = go (n == account) (λ y. subst IsAccountNumber (eqb-true n account y) all.0) (account_numbered ns account all.1) e
  where
    go : (t : Bool) → (t ≡ true → IsAccountNumber account) → (list_any (λ m. m == account) ns ≡ true → IsAccountNumber account) → (t || list_any (λ m. m == account) ns) ≡ true → IsAccountNumber account
    go true here later h = here refl
    go false here later h = later h

abbrev listed : ℕ → SchemeRegistry → Bool
listed account m = order.has_account m account

member_numbered : (ms : List SchemeRegistry) (c : Code) (account : ℕ) → AreNumbered ms → option_map_or (listed account) (find (λ m. same_code m.code c) ms) false ≡ true → IsAccountNumber account
member_numbered [] c account all e = absurd cc
member_numbered (m ∷ ms) c account all e = go (same_code m.code c) (member_numbered ms c account all.1) e
  where
    go : (t : Bool) → (option_map_or (listed account) (find (λ n. same_code n.code c) ms) false ≡ true → IsAccountNumber account)
        → option_map_or (listed account) (cond t (Some m) (find (λ n. same_code n.code c) ms)) false ≡ true → IsAccountNumber account
    go true later h = account_numbered m.accounts account all.0 h
    go false later h = later h

pub not_listed : (scheme : Scheme) (c : Code) (account : ℕ) → (IsAccountNumber account → ⊥) → has_account scheme c account ≡ false
not_listed scheme c account outside =
    elim (cases_Bool (has_account scheme c account)) [
      | inl y ↦ absurd (outside (member_numbered scheme.members c account scheme.sound.numbered y))
      | inr n ↦ n
    ]
