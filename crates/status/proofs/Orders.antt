-- When two orders to transfer units are the same.
use Rattle.std.proofs.Common.{◌≡◌, ◌↔◌, IsTrue, List, [], ◌∷◌, true, ◌==◌, refl, subst, eq-eqb}
use lib.Pointwise.{pointwise}
use Rattle.std.proofs.lemmas.Bool.{and_parts, and_from, eqb-true}
use Rattle.units.specs.Code.{same_code}
use Rattle.units.specs.Unit.{same_raw}
use Rattle.units.specs.contracts.block.RawBlockPartialEq.TheImpl.{eq-value}
use Rattle.units.specs.declared.block.RawBlock.{RawBlock}
use Rattle.units.proofs.Same.{code_of_same, same_code-refl}
use Rattle.status.specs.Content.{same_blocks}
use Rattle.status.specs.Order.{Order, same_order}
use Rattle.status.proofs.Contents.{blocks_of_same, same_blocks-refl, kinds, periods}

eq_raw : (a b : RawBlock) → eq-value.it a b ≡ same_raw a b
eq_raw a b = rw (periods a.period b.period, kinds a.kind b.kind) refl

-- blocks as they were ordered compare as lists
pub same_ordered : (xs ys : List RawBlock) → pointwise eq-value.it xs ys ≡ same_blocks xs ys
same_ordered [] [] = refl
same_ordered [] (y ∷ ys) = refl
same_ordered (x ∷ xs) [] = refl
same_ordered (x ∷ xs) (y ∷ ys) = rw (eq_raw x y, same_ordered xs ys) refl

order_of_same : (a b : Order) → same_order a b ≡ true → a ≡ b
order_of_same a b e =
    let h = and_parts (a.account == b.account) _ e in
    let r = and_parts (same_code a.acquirer b.acquirer) _ h.1 in
    let t = and_parts (a.to_account == b.to_account) (same_blocks a.units b.units) r.1 in
    let accounts = eqb-true a.account b.account h.0 in
    let registries = code_of_same a.acquirer b.acquirer r.0 in
    let others = eqb-true a.to_account b.to_account t.0 in
    let blocks = blocks_of_same a.units b.units t.1 in
    λ i. record { account = accounts i; acquirer = registries i; to_account = others i; units = blocks i }

same_order-refl : (a : Order) → same_order a a ≡ true
same_order-refl a =
    and_from (a.account == a.account) _ (eq-eqb a.account a.account refl) (and_from (same_code a.acquirer a.acquirer) _ (same_code-refl a.acquirer)
    (and_from (a.to_account == a.to_account) _ (eq-eqb a.to_account a.to_account refl) (same_blocks-refl a.units)))

-- two orders are the same where the test says so
pub told : (a b : Order) → IsTrue (same_order a b) ↔ (a ≡ b)
told a b = (order_of_same a b, λ e. subst (λ c. same_order a c ≡ true) e (same_order-refl a))
