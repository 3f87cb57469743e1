-- Holders that compare alike are one.
use Rattle.std.proofs.Common.{◌≡◌, Bool, true, ◌&&◌, eqb, refl, eq-eqb}
use Rattle.std.proofs.lemmas.Bool.{and_parts, and_from, eqb-true}
use denote.Enum.Bare.{sameb, same_true, true_same}
use Rattle.units.specs.Code.{same_code}
use Rattle.units.specs.contracts.block.Kind as kind
use Rattle.units.proofs.Same.{code_of_same, same_code-refl}
use Rattle.scheme.specs.declared.members.Holder.{Holder}

-- as the derived test compares them
abbrev pub same_holder : Holder → Holder → Bool
same_holder a b = same_code a.registry b.registry && (eqb a.account b.account && sameb kind.the_type a.kind b.kind)

pub holder_of_same : (a b : Holder) → same_holder a b ≡ true → a ≡ b
holder_of_same a b e =
    let h = and_parts (same_code a.registry b.registry) _ e in
    let k = and_parts (eqb a.account b.account) (sameb kind.the_type a.kind b.kind) h.1 in
    let registries = code_of_same a.registry b.registry h.0 in
    let accounts = eqb-true a.account b.account k.0 in
    let kinds = same_true kind.the_type tt a.kind b.kind k.1 in
    λ i. record { registry = registries i; account = accounts i; kind = kinds i }

pub same_holder-refl : (a : Holder) → same_holder a a ≡ true
same_holder-refl a =
    and_from (same_code a.registry a.registry) _ (same_code-refl a.registry) (and_from (eqb a.account a.account) _ (eq-eqb a.account a.account refl) (true_same kind.the_type a.kind a.kind refl))
