-- The codes of causes, noted one after another.
use Rattle.std.proofs.Common.{◌≡◌, ℕ, List, [], ◌∷◌, ◌++◌, Bool, true, false, refl, sym, ap, ◌∙◌, append_assoc}
use Rattle.protocol.specs.Checks.{Causes, codes_of}

codes_append : (xs ys : Causes) → codes_of (xs ++ ys) ≡ codes_of xs ++ codes_of ys
codes_append [] ys = refl
codes_append (x ∷ xs) ys = go x.0 (codes_append xs ys)
  where
    go : (b : Bool) → codes_of (xs ++ ys) ≡ codes_of xs ++ codes_of ys → codes_of ((b, x.1) ∷ (xs ++ ys)) ≡ codes_of ((b, x.1) ∷ xs) ++ codes_of ys
    go true e = ap (λ cs. x.1 ∷ cs) e
    go false e = e

-- codes noted one after another, after others
pub noted_after : (start : List ℕ) (xs ys : Causes) (before after : List ℕ) → before ≡ start ++ codes_of xs → after ≡ before ++ codes_of ys → after ≡ start ++ codes_of (xs ++ ys)
noted_after start xs ys before after e f = f ∙ ap (λ cs. cs ++ codes_of ys) e ∙ append_assoc start (codes_of xs) (codes_of ys) ∙ ap (λ cs. start ++ cs) (sym (codes_append xs ys))

-- codes noted one after another
pub noted : (xs ys : Causes) (before after : List ℕ) → before ≡ codes_of xs → after ≡ before ++ codes_of ys → after ≡ codes_of (xs ++ ys)
noted xs ys before after e f = f ∙ ap (λ cs. cs ++ codes_of ys) e ∙ sym (codes_append xs ys)
