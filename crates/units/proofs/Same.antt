-- The tests of sameness as equations.
use Rattle.std.proofs.Common.{◌≡◌, ◌↔◌, IsTrue, ℕ, zero, suc, true, true≢false, ◌==◌, refl, sym, ap, subst, ◌∙◌, eq-eqb}
use Rattle.std.specs.Coded.{×_prop, le_prop}
use Rattle.std.proofs.lemmas.Bool.{and_parts, and_from, eqb-true}
use Rattle.units.specs.Facts.{IsLetter}
use Rattle.units.specs.Code.{same_code, same_node}
use Rattle.units.specs.Unit.{same_period, same_kind, same_raw, period_index, kind_index}
use Rattle.units.specs.contracts.code.NodePartialEq.TheImpl.{eq-value as node-eq}
use Rattle.units.specs.declared.block.Kind.{Kind}
use Rattle.units.specs.declared.block.Kind.TheVariants.{Aau, Rmu, Eru, Cer, Tcer, Lcer}
use Rattle.units.specs.declared.block.Period.{Period}
use Rattle.units.specs.declared.block.Period.TheVariants.{First, Second}
use Rattle.units.specs.declared.block.RawBlock.{RawBlock}
use Rattle.units.specs.declared.code.Code.{Code}
use Rattle.units.specs.declared.code.Node.{Node}
use Rattle.units.specs.declared.code.Node.TheVariants.{Itl, Registry}

letters_prop : (f s : ℕ) → IsProp (IsLetter f × IsLetter s)
letters_prop f s = ×_prop (×_prop le_prop le_prop) (×_prop le_prop le_prop)

abbrev code : (f s : ℕ) → IsLetter f × IsLetter s → Code
code f s l = record { first = f; second = s; letters = l }

alike : (f s f' s' : ℕ) → f ≡ f' → s ≡ s' → (l : IsLetter f × IsLetter s) (m : IsLetter f' × IsLetter s') → code f s l ≡ code f' s' m
alike f s f' s' p q =
    subst (λ x. (l : IsLetter f × IsLetter s) (m : IsLetter x × IsLetter s') → code f s l ≡ code x s' m) p
    (subst (λ y. (l : IsLetter f × IsLetter s) (m : IsLetter f × IsLetter y) → code f s l ≡ code f y m) q (λ l m. ap (code f s) (letters_prop f s l m)))

-- a code is its two letters
pub codes_alike : (a b : Code) → a.first ≡ b.first → a.second ≡ b.second → a ≡ b
codes_alike a b p q = alike a.first a.second b.first b.second p q a.letters b.letters

pub code_of_same : (a b : Code) → same_code a b ≡ true → a ≡ b
code_of_same a b e = let h = and_parts (a.first == b.first) (a.second == b.second) e in codes_alike a b (eqb-true a.first b.first h.0) (eqb-true a.second b.second h.1)

pub node_of_same : (a b : Node) → same_node a b ≡ true → a ≡ b
node_of_same Itl Itl e = refl
node_of_same Itl (Registry d) e = absurd (true≢false (sym e))
node_of_same (Registry c) Itl e = absurd (true≢false (sym e))
node_of_same (Registry c) (Registry d) e = ap (λ (x : Code). Registry x) (code_of_same c d e)

pub same_code-refl : (a : Code) → same_code a a ≡ true
same_code-refl a = rw (eq-eqb a.first a.first refl, eq-eqb a.second a.second refl) refl

pub same_node-refl : (n : Node) → same_node n n ≡ true
same_node-refl Itl = refl
same_node-refl (Registry c) = same_code-refl c

-- ---- periods, kinds and blocks

pub period_of_same : (p q : Period) → same_period p q ≡ true → p ≡ q
period_of_same First First e = refl
period_of_same First Second e = absurd (true≢false (sym e))
period_of_same Second First e = absurd (true≢false (sym e))
period_of_same Second Second e = refl

pub same_period-refl : (p : Period) → same_period p p ≡ true
same_period-refl First = refl
same_period-refl Second = refl

kind_at : ℕ → Kind
kind_at zero = Aau
kind_at (suc zero) = Rmu
kind_at (suc (suc zero)) = Eru
kind_at (suc (suc (suc zero))) = Cer
kind_at (suc (suc (suc (suc zero)))) = Tcer
kind_at (suc (suc (suc (suc (suc n))))) = Lcer

kind_at-index : (k : Kind) → kind_at (kind_index k) ≡ k
unfolding kind_at
kind_at-index Aau = refl
kind_at-index Rmu = refl
kind_at-index Eru = refl
kind_at-index Cer = refl
kind_at-index Tcer = refl
kind_at-index Lcer = refl

pub kind_of_same : (k l : Kind) → same_kind k l ≡ true → k ≡ l
kind_of_same k l e = sym (kind_at-index k) ∙ ap kind_at (eqb-true (kind_index k) (kind_index l) e) ∙ kind_at-index l

pub raw_of_same : (a b : RawBlock) → same_raw a b ≡ true → a ≡ b
raw_of_same a b e =
    let h = and_parts (same_code a.origin b.origin) _ e in
    let p = and_parts (same_period a.period b.period) _ h.1 in
    let k = and_parts (same_kind a.kind b.kind) _ p.1 in
    let n = and_parts (a.first == b.first) (a.last == b.last) k.1 in
    let origins = code_of_same a.origin b.origin h.0 in
    let periods = period_of_same a.period b.period p.0 in
    let kinds = kind_of_same a.kind b.kind k.0 in
    let firsts = eqb-true a.first b.first n.0 in
    let lasts = eqb-true a.last b.last n.1 in
    λ i. record { origin = origins i; period = periods i; kind = kinds i; first = firsts i; last = lasts i }

pub same_raw-refl : (a : RawBlock) → same_raw a a ≡ true
same_raw-refl a =
    and_from (same_code a.origin a.origin) _ (same_code-refl a.origin) (and_from (same_period a.period a.period) _ (eq-eqb (period_index a.period) (period_index a.period) refl)
    (and_from (same_kind a.kind a.kind) _ (eq-eqb (kind_index a.kind) (kind_index a.kind) refl) (and_from (a.first == a.first) (a.last == a.last) (eq-eqb a.first a.first refl) (eq-eqb a.last a.last refl))))

-- the derived test of two nodes
node_test : (m n : Node) → node-eq.it m n ≡ same_node m n
node_test Itl Itl = refl
node_test Itl (Registry b) = refl
node_test (Registry a) Itl = refl
node_test (Registry a) (Registry b) = refl

pub node_told : (m n : Node) → IsTrue (node-eq.it m n) ↔ (m ≡ n)
node_told m n = (λ e. node_of_same m n (sym (node_test m n) ∙ e), λ e. node_test m n ∙ subst (λ o. same_node m o ≡ true) e (same_node-refl m))
