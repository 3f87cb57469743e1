-- The parts of a content: blocks with and without their proofs, and when two contents are the same.
use Rattle.std.proofs.Common.{◌≡◌, ◌≤◌, ◌↔◌, IsTrue, arith, length, ℕ, List, [], ◌∷◌, Bool, true, false, true≢false, ◌==◌, refl, sym, ap, subst, ◌∙◌, eq-eqb}
use lib.Pointwise.{pointwise}
use Rattle.std.specs.List.{AllByRecursion}
use Rattle.std.proofs.lemmas.Bool.{and_parts, and_from, eqb-true}
use denote.Enum.Bare.{sameb, same_true, true_same}
use Rattle.units.specs.contracts.block.Kind as kind
use Rattle.units.specs.contracts.block.Period as period
use Rattle.units.specs.contracts.block.BlockPartialEq.TheImpl.{eq-value}
use Rattle.units.proofs.Same.{code_of_same, kind_of_same, period_of_same, raw_of_same, same_code-refl, same_raw-refl}
use Rattle.units.specs.Code.{same_code}
use Rattle.std.proofs.lemmas.List.{length-map}
use Rattle.units.specs.Facts.{IsRange}
use Rattle.units.specs.declared.code.Code.{Code}
use Rattle.units.specs.Facts.{IsAccountNumber}
use Rattle.units.specs.Unit.{same_raw, same_period, same_kind, period_index, kind_index}
use Rattle.units.specs.declared.block.Block.{Block}
use Rattle.units.specs.declared.block.RawBlock.{RawBlock}
use Rattle.units.specs.declared.block.Period.{Period}
use Rattle.units.specs.declared.block.Kind.{Kind}
use Rattle.status.specs.Content.{Content, IsContent, raws, same_blocks, same_content}

-- each block is in range
pub in_range : (blocks : List Block) → AllByRecursion (λ b. IsRange b.first b.last) (raws blocks)
in_range [] = tt
in_range (b ∷ bs) = (b.in_range, in_range bs)

pub blocks_of_same : (xs ys : List RawBlock) → same_blocks xs ys ≡ true → xs ≡ ys
blocks_of_same [] [] e = refl
blocks_of_same [] (y ∷ ys) e = absurd (true≢false (sym e))
blocks_of_same (x ∷ xs) [] e = absurd (true≢false (sym e))
blocks_of_same (x ∷ xs) (y ∷ ys) e =
    let h = and_parts (same_raw x y) (same_blocks xs ys) e in
    let here = raw_of_same x y h.0 in
    let rest = blocks_of_same xs ys h.1 in
    cc (here, rest)

pub same_blocks-refl : (xs : List RawBlock) → same_blocks xs xs ≡ true
same_blocks-refl [] = refl
same_blocks-refl (x ∷ xs) = and_from (same_raw x x) (same_blocks xs xs) (same_raw-refl x) (same_blocks-refl xs)

content_of_same : (a b : Content) → same_content a b ≡ true → a ≡ b
content_of_same a b e =
    let h = and_parts (a.account == b.account) _ e in
    let r = and_parts (same_code a.acquirer b.acquirer) _ h.1 in
    let t = and_parts (a.to_account == b.to_account) (same_blocks a.units b.units) r.1 in
    let accounts = eqb-true a.account b.account h.0 in
    let acquirers = code_of_same a.acquirer b.acquirer r.0 in
    let others = eqb-true a.to_account b.to_account t.0 in
    let blocks = blocks_of_same a.units b.units t.1 in
    λ i. record { account = accounts i; acquirer = acquirers i; to_account = others i; units = blocks i }

same_content-refl : (a : Content) → same_content a a ≡ true
same_content-refl a =
    and_from (a.account == a.account) _ (eq-eqb a.account a.account refl) (and_from (same_code a.acquirer a.acquirer) _ (same_code-refl a.acquirer)
    (and_from (a.to_account == a.to_account) _ (eq-eqb a.to_account a.to_account refl) (same_blocks-refl a.units)))

-- two contents are the same where the test says so
pub told : (a b : Content) → IsTrue (same_content a b) ↔ (a ≡ b)
told a b = (content_of_same a b, λ e. subst (λ c. same_content a c ≡ true) e (same_content-refl a))

same_bool : (x y : Bool) → (x ≡ true → y ≡ true) → (y ≡ true → x ≡ true) → x ≡ y
same_bool true y f g = sym (f refl)
same_bool false true f g = g refl
same_bool false false f g = refl

pub kinds : (k l : Kind) → sameb kind.the_type k l ≡ same_kind k l
kinds k l =
    same_bool _ _ (λ e. eq-eqb (kind_index k) (kind_index l) (ap kind_index (same_true kind.the_type tt k l e))) (λ e. true_same kind.the_type k l (kind_of_same k l e))

pub periods : (p q : Period) → sameb period.the_type p q ≡ same_period p q
periods p q =
    same_bool _ _ (λ e. eq-eqb (period_index p) (period_index q) (ap period_index (same_true period.the_type tt p q e))) (λ e. true_same period.the_type p q (period_of_same p q e))

eq_raw : (a b : Block) → eq-value.it a b ≡ same_raw a.raw b.raw
eq_raw a b = rw (periods a.raw.period b.raw.period, kinds a.raw.kind b.raw.kind) refl

-- blocks with their proofs compare as those without
pub same_raws : (xs ys : List Block) → pointwise eq-value.it xs ys ≡ same_blocks (raws xs) (raws ys)
same_raws [] [] = refl
same_raws [] (y ∷ ys) = refl
same_raws (x ∷ xs) [] = refl
same_raws (x ∷ xs) (y ∷ ys) = rw (eq_raw x y, same_raws xs ys) refl

-- the conditions of a content, by its parts
pub sound : (account to_account : ℕ) (acquirer : Code) (blocks kept : List Block) → blocks ≡ kept → IsAccountNumber account → IsAccountNumber to_account → 1 ≤ length blocks → length blocks ≤ 16
    → IsContent (record { account = account; acquirer = acquirer; to_account = to_account; units = raws kept })
sound account to_account acquirer blocks kept same a t some few =
    let counted : length (raws kept) ≡ length blocks = length-map kept (λ (b : Block). b.raw) ∙ ap length (sym same) in
    record {
      account = a;
      to_account = t;
      some_units = omega (arith, counted, some);
      few_units = omega (arith, counted, few);
      in_range = in_range kept;
    }
