-- A text writes one value at most.
use Rattle.std.proofs.Common.{bytes_eq, codes, if◌then◌else◌, ◌≡◌, ℕ, ◌^◌, ◌<◌, List, refl, sym, ap, ◌∙◌, arith}
use Rattle.std.proofs.Math.Bridge.{le_prop}
use mathlib.Core.HLevel.{is_prop→PathP}
use Rattle.std.specs.Fmt.{decimal}
use Rattle.std.proofs.lemmas.Fmt.{decimal_injective}
use Rattle.units.specs.Facts.{IsRange}
use Rattle.units.specs.Code.{code_text}
use Rattle.units.specs.Block.{kind_text, period_text, IsRawText}
use Rattle.units.specs.declared.code.Code.{Code}
use Rattle.units.specs.declared.block.RawBlock.{RawBlock}
use Rattle.units.specs.declared.block.Block.{Block}
use Rattle.units.specs.declared.block.Period.{Period}
use Rattle.units.specs.declared.block.Period.TheVariants.{First, Second}
use Rattle.units.specs.declared.block.Kind.{Kind}
use Rattle.units.specs.declared.block.Kind.TheVariants.{Aau, Rmu, Eru, Cer, Tcer, Lcer}
use Rattle.units.proofs.Blocks.{dash_free, colon_free, code_free, period_free}
use Rattle.units.proofs.Cuts.{cut_once}
use Rattle.units.proofs.Same.{codes_alike}

pub block_same : (a b : Block) → a.raw ≡ b.raw → a ≡ b
block_same a b e = λ i. record { raw = e i; in_range = is_prop→PathP (λ j. IsRange (e j).first (e j).last) (λ j. hlevel le_prop) a.in_range b.in_range i }

kind_told : List ℕ → Kind
kind_told text =
    if bytes_eq text (codes "AAU") then Aau else (if bytes_eq text (codes "RMU") then Rmu else (if bytes_eq text (codes "ERU") then Eru else
    (if bytes_eq text (codes "CER") then Cer else (if bytes_eq text (codes "tCER") then Tcer else Lcer))))

kind_again : (k : Kind) → kind_told (kind_text k) ≡ k
unfolding kind_told
kind_again Aau = refl
kind_again Rmu = refl
kind_again Eru = refl
kind_again Cer = refl
kind_again Tcer = refl
kind_again Lcer = refl

pub kind_same : (a b : Kind) → kind_text a ≡ kind_text b → a ≡ b
kind_same a b e = sym (kind_again a) ∙ ap kind_told e ∙ kind_again b

period_told : List ℕ → Period
period_told text = if bytes_eq text (codes "1") then First else Second

period_again : (p : Period) → period_told (period_text p) ≡ p
unfolding period_told
period_again First = refl
period_again Second = refl

pub period_same : (a b : Period) → period_text a ≡ period_text b → a ≡ b
period_same a b e = sym (period_again a) ∙ ap period_told e ∙ period_again b

pub code_text_same : (a b : Code) → code_text a ≡ code_text b → a ≡ b
code_text_same a b e = codes_alike a b (cc) (cc)

pub number_same : (m n : ℕ) → m < 10 ^ 18 → n < 10 ^ 18 → decimal m ≡ decimal n → m ≡ n
number_same m n h k e = let mm : m < 2 ^ 64 = omega arith in let nn : n < 2 ^ 64 = omega arith in decimal_injective m n mm nn e

pub raw_same : (text : List ℕ) (a b : RawBlock) → IsRawText text a → IsRawText text b → a ≡ b
raw_same text a b p q =
    let one = cut_once 58 (code_text a.origin) _ (code_text b.origin) _ (code_free a.origin) (code_free b.origin) (sym p.spelled ∙ q.spelled) in
    let two = cut_once 58 (period_text a.period) _ (period_text b.period) _ (period_free a.period) (period_free b.period) one.1 in
    let three = cut_once 45 (decimal a.first) _ (decimal b.first) _ (dash_free a.first p.first) (dash_free b.first q.first) two.1 in
    let four = cut_once 58 (decimal a.last) _ (decimal b.last) _ (colon_free a.last p.last) (colon_free b.last q.last) three.1 in
    let origin : a.origin ≡ b.origin = code_text_same a.origin b.origin one.0 in
    let period : a.period ≡ b.period = period_same a.period b.period two.0 in
    let first : a.first ≡ b.first = number_same a.first b.first p.first q.first three.0 in
    let last : a.last ≡ b.last = number_same a.last b.last p.last q.last four.0 in
    let kind : a.kind ≡ b.kind = kind_same a.kind b.kind four.1 in
    λ i. record { origin = origin i; period = period i; kind = kind i; first = first i; last = last i }
