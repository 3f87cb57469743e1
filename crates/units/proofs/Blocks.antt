-- Conditions that a text that is no block doesn't meet.
use Rattle.std.proofs.Common.{◌≡◌, ℕ, ◌^◌, ◌<◌, List, ◌∷◌, ◌++◌, ap, ◌∙◌, arith, subst}
use Rattle.std.specs.Fmt.{decimal}
use Rattle.units.specs.Text.{IsFreeOf, IsNumberText}
use Rattle.units.specs.Code.{code_text}
use Rattle.units.specs.Block.{kind_text, period_text, numbers_text, AreNumbers, IsRawText}
use Rattle.units.specs.declared.code.Code.{Code}
use Rattle.units.specs.declared.block.RawBlock.{RawBlock}
use Rattle.units.specs.declared.block.Period.{Period}
use Rattle.units.specs.declared.block.Period.TheVariants.{First, Second}
use Rattle.units.specs.declared.block.Kind.{Kind}
use Rattle.units.proofs.Numbers.{decimal_free}
use Rattle.units.proofs.Cuts.{cut_once, cut_not_free}

-- neither ':' nor '-' is a digit
pub dash_free : (n : ℕ) → n < 10 ^ 18 → IsFreeOf 45 (decimal n)
dash_free n = decimal_free 45 n (λ e. cc)

pub colon_free : (n : ℕ) → n < 10 ^ 18 → IsFreeOf 58 (decimal n)
colon_free n = decimal_free 58 n (λ e. cc)

pub code_free : (c : Code) → IsFreeOf 58 (code_text c)
code_free c = let l = c.letters in ((λ e. absurd (omega arith)), ((λ e. absurd (omega arith)), tt))

pub period_free : (p : Period) → IsFreeOf 58 (period_text p)
period_free First = ((λ e. absurd (omega arith)), tt)
period_free Second = ((λ e. absurd (omega arith)), tt)

-- the pieces that the two cuts of the numbers give
first_piece : (f b : List ℕ) (x y : ℕ) (k : Kind) → IsFreeOf 45 f → AreNumbers (f ++ 45 ∷ b) x y k → (f ≡ decimal x) × (b ≡ decimal y ++ 58 ∷ kind_text k)
first_piece f b x y k free t = cut_once 45 f b (decimal x) _ free (dash_free x t.first_fits) t.spelled

last_piece : (f l g : List ℕ) (x y : ℕ) (k : Kind) → IsFreeOf 45 f → IsFreeOf 58 l → AreNumbers (f ++ 45 ∷ (l ++ 58 ∷ g)) x y k → (l ≡ decimal y) × (g ≡ kind_text k)
last_piece f l g x y k ff fl t = cut_once 58 l g (decimal y) _ fl (colon_free y t.last_fits) (first_piece f _ x y k ff t).1

pub no_first_cut : (text : List ℕ) → IsFreeOf 45 text → (x y : ℕ) (k : Kind) → AreNumbers text x y k → ⊥
no_first_cut text free x y k t = cut_not_free 45 (decimal x) _ (subst (IsFreeOf 45) t.spelled free)

pub no_last_cut : (text f b : List ℕ) → text ≡ f ++ 45 ∷ b → IsFreeOf 45 f → IsFreeOf 58 b → (x y : ℕ) (k : Kind) → AreNumbers text x y k → ⊥
no_last_cut text f b e ff fb x y k t =
    let u = subst (λ s. AreNumbers s x y k) e t in
    cut_not_free 58 (decimal y) (kind_text k) (subst (IsFreeOf 58) (first_piece f b x y k ff u).1 fb)

module _ (text f b l g : List ℕ) (e : text ≡ f ++ 45 ∷ b) (d : b ≡ l ++ 58 ∷ g) (ff : IsFreeOf 45 f) (fl : IsFreeOf 58 l) where
  whole : text ≡ f ++ 45 ∷ (l ++ 58 ∷ g)
  whole = e ∙ ap (λ s. f ++ 45 ∷ s) d

  pub no_first : ((n : ℕ) → IsNumberText f n → ⊥) → (x y : ℕ) (k : Kind) → AreNumbers text x y k → ⊥
  no_first never x y k t =
      let u = subst (λ s. AreNumbers s x y k) whole t in
      never x ((first_piece f (l ++ 58 ∷ g) x y k ff u).0, t.first_fits)

  pub no_last : ((n : ℕ) → IsNumberText l n → ⊥) → (x y : ℕ) (k : Kind) → AreNumbers text x y k → ⊥
  no_last never x y k t =
      let u = subst (λ s. AreNumbers s x y k) whole t in
      never y ((last_piece f l g x y k ff fl u).0, t.last_fits)

  pub no_kind : ((k : Kind) → g ≡ kind_text k → ⊥) → (x y : ℕ) (k : Kind) → AreNumbers text x y k → ⊥
  no_kind never x y k t =
      let u = subst (λ s. AreNumbers s x y k) whole t in
      never k (last_piece f l g x y k ff fl u).1

-- the pieces that the two cuts of a block give
origin_piece : (o b : List ℕ) (r : RawBlock) → IsFreeOf 58 o → IsRawText (o ++ 58 ∷ b) r → (o ≡ code_text r.origin) × (b ≡ period_text r.period ++ 58 ∷ numbers_text r.first r.last r.kind)
origin_piece o b r free t = cut_once 58 o b (code_text r.origin) _ free (code_free r.origin) t.spelled

period_piece : (o p g : List ℕ) (r : RawBlock) → IsFreeOf 58 o → IsFreeOf 58 p → IsRawText (o ++ 58 ∷ (p ++ 58 ∷ g)) r → (p ≡ period_text r.period) × (g ≡ numbers_text r.first r.last r.kind)
period_piece o p g r fo fp t = cut_once 58 p g (period_text r.period) _ fp (period_free r.period) (origin_piece o _ r fo t).1

pub no_period_cut : (text o b : List ℕ) → text ≡ o ++ 58 ∷ b → IsFreeOf 58 o → IsFreeOf 58 b → (r : RawBlock) → IsRawText text r → ⊥
no_period_cut text o b e fo fb r t =
    let u = subst (λ s. IsRawText s r) e t in
    cut_not_free 58 (period_text r.period) _ (subst (IsFreeOf 58) (origin_piece o b r fo u).1 fb)

module _ (text o b p g : List ℕ) (e : text ≡ o ++ 58 ∷ b) (d : b ≡ p ++ 58 ∷ g) (fo : IsFreeOf 58 o) (fp : IsFreeOf 58 p) where
  all : text ≡ o ++ 58 ∷ (p ++ 58 ∷ g)
  all = e ∙ ap (λ s. o ++ 58 ∷ s) d

  pub no_origin : ((c : Code) → o ≡ code_text c → ⊥) → (r : RawBlock) → IsRawText text r → ⊥
  no_origin never r t = never r.origin (origin_piece o (p ++ 58 ∷ g) r fo (subst (λ s. IsRawText s r) all t)).0

  pub no_period : ((q : Period) → p ≡ period_text q → ⊥) → (r : RawBlock) → IsRawText text r → ⊥
  no_period never r t = never r.period (period_piece o p g r fo fp (subst (λ s. IsRawText s r) all t)).0
