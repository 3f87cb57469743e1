-- Identifiers that are equal in the order of identifiers are one identifier.
use Rattle.std.proofs.Common.{◌≡◌, ℕ, refl, sym, ap, subst, ◌∙◌}
use Rattle.std.specs.declared.cmp.Ordering.{Ordering}
use Rattle.std.specs.Cmp.{IsTotalOrder}
use Rattle.std.specs.Ordering.{nat_cmp, ordering_then}
use Rattle.std.proofs.lemmas.Bool.{and_from, eq-eqb}
use Rattle.std.proofs.lemmas.Map.Lookups.{CmpEqualImpliesEq, exact_pairs, exact_unsigned}
use Rattle.units.proofs.Same.{codes_alike, same_code-refl}
use Rattle.units.specs.Code.{same_code}
use Rattle.status.proofs.Ids.{id_of_same}
use Rattle.status.specs.Id.{id_cmp}
use Rattle.status.specs.contracts.id.TransactionIdOrd.TheImpl.Laws.{total-law as id-total}
use Rattle.std.specs.Prelude.{◌==◌, true}

pub ids_total : IsTotalOrder id_cmp
ids_total = id-total

abbrev pair_cmp : ℕ × ℕ → ℕ × ℕ → Ordering
pair_cmp x y = ordering_then (nat_cmp x.0 y.0) (nat_cmp x.1 y.1)

pub exact_ids : CmpEqualImpliesEq id_cmp
exact_ids a b h =
    let k = exact_pairs pair_cmp nat_cmp (exact_pairs nat_cmp nat_cmp exact_unsigned exact_unsigned) exact_unsigned ((a.code.first, a.code.second), a.number) ((b.code.first, b.code.second), b.number) h in
    let codes : a.code ≡ b.code = codes_alike a.code b.code (ap (λ x. x.0.0) k) (ap (λ x. x.0.1) k) in
    id_of_same a b (and_from (same_code a.code b.code) (a.number == b.number) (subst (λ c. same_code a.code c ≡ true) codes (same_code-refl a.code)) (eq-eqb a.number b.number (ap (λ x. x.1) k)))
