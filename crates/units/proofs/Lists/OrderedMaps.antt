-- An ordered map as a finite map: its value at a key, and when two are the same.
use Rattle.std.proofs.Common.{◌≡◌, Bool, true, false, List, [], ◌∷◌, cond, Option, Some, refl, sym, ◌∙◌}
use Rattle.std.specs.BTreeMap as tree
use Rattle.std.specs.BTreeMap.{BTreeMap}
use Rattle.std.specs.Cmp.{IsTotalOrder}
use Rattle.std.specs.FinMap.{from_entries, get, get-from_entries, same_map}
use Rattle.std.specs.FinMap.Entries.{find}
use Rattle.std.specs.Map.{lookup}
use Rattle.std.specs.Ordering.{is_eq, eq_by_cmp}
use Rattle.std.specs.declared.cmp.Ordering.{Ordering}
use Rattle.std.proofs.lemmas.Map.Lookups.{CmpEqualImpliesEq}

module _ {K X : Type 0} (cmp : K → K → Ordering) (total : IsTotalOrder cmp) where
  found : (es : List (K × X)) (q : K) → find cmp q es ≡ lookup (λ k. is_eq (cmp q k)) es
  found [] q = refl
  found (e ∷ es) q = step (eq_by_cmp cmp q e.0) (found es q)
    where
      step : (b : Bool) {x y : Option X} → x ≡ y → cond b (Some e.1) x ≡ cond b (Some e.1) y
      step true h = refl
      step false h = h

  pub get_entries : (m : BTreeMap K X) (q : K) → get (from_entries {R = cmp} m.entries) q ≡ tree.get cmp m q
  get_entries m q = get-from_entries total m.entries q ∙ found m.entries q

  pub same_entries : CmpEqualImpliesEq cmp → (a b : BTreeMap K X) → ((q : K) → tree.get cmp a q ≡ tree.get cmp b q) → from_entries {R = cmp} a.entries ≡ from_entries b.entries
  same_entries exact a b h = same_map total exact (from_entries a.entries) (from_entries b.entries) (λ q. get_entries a q ∙ h q ∙ sym (get_entries b q))
