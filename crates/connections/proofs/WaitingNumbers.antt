-- The numbers of connections that wait: all are below the next one.
use Rattle.std.proofs.Common.{◌≡◌, ℕ, ◌+◌, Bool, true, false, cond, List, [], ◌∷◌, ◌++◌, refl, sym, ap, subst, ◌∙◌, arith}
use Rattle.std.specs.BTreeMap.{insert_entry}
use Rattle.std.specs.Map.{remove_entry}
use Rattle.std.specs.Ordering.{nat_cmp, match_ordering}
use Rattle.std.specs.Cmp.{nat_cmp_is}
use Rattle.std.specs.declared.cmp.Ordering.TheVariants.{Greater}
use Rattle.connections.specs.Waiting.{AreBelow}

module _ {X : Type 0} where
  -- a number above all others is put last
  pub put_last : (n : ℕ) (x : X) (es : List (ℕ × X)) → AreBelow n es → insert_entry nat_cmp es n x ≡ es ++ (n, x) ∷ []
  put_last n x [] h = refl
  put_last n x (e ∷ es) h =
      ap (λ o. match_ordering o ((n, x) ∷ e ∷ es) ((e.0, x) ∷ es) (e ∷ insert_entry nat_cmp es n x)) (sym (nat_cmp_is n e.0 Greater h.0))
      ∙ ap (λ s. e ∷ s) (put_last n x es h.1)

  -- all, including the new one, are below the next number
  pub below_push : (n : ℕ) (x : X) (es : List (ℕ × X)) → AreBelow n es → AreBelow (n + 1) (es ++ (n, x) ∷ [])
  below_push n x [] h = (omega arith, tt)
  below_push n x (e ∷ es) h = (omega (arith, h.0), below_push n x es h.1)

  -- those that are left are below it
  pub below_remove : (n : ℕ) (test : ℕ → Bool) (es : List (ℕ × X)) → AreBelow n es → AreBelow n (remove_entry test es)
  below_remove n test [] h = h
  below_remove n test (e ∷ es) h =
      elim (test e.0) as (λ b. AreBelow n (cond b es (e ∷ remove_entry test es))) [
        | true ↦ h.1
        | false ↦ (h.0, below_remove n test es h.1)
      ]

  pub below_rest : (n : ℕ) (e : ℕ × X) (all es : List (ℕ × X)) → all ≡ e ∷ es → AreBelow n all → AreBelow n es
  below_rest n e all es is h = (subst (AreBelow n) is h).1
