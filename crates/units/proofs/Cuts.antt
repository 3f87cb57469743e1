-- A text cut at a byte.
use Rattle.std.proofs.Common.{◌≡◌, ◌≢◌, ℕ, suc, ◌<◌, List, [], ◌∷◌, ◌++◌, length, get_or, refl, arith, Option, Some, None, IfSome, IfNone}
use Rattle.std.specs.Option.{MatchOption}
use denote.Ref.{Bor}
use Rattle.units.specs.Text.{IsFreeOf}

pub free_from : (byte : ℕ) (xs : List ℕ) → ((i : ℕ) → i < length xs → get_or xs i 0 ≢ byte) → IsFreeOf byte xs
free_from byte [] none = tt
free_from byte (x ∷ xs) none = (none 0 (omega arith), free_from byte xs (λ i h. none (suc i) (omega arith)))

-- the contract of `split_once`, for its two outcomes
abbrev pub Parts : ℕ → List ℕ → Option (Bor (List ℕ) × Bor (List ℕ)) → Type 0
Parts byte text r = MatchOption r ((i : ℕ) → i < length text → get_or text i 0 ≢ byte)
    (λ x. (text ≡ x.0.now ++ (byte ∷ x.1.now)) × ((i : ℕ) → i < length x.0.now → get_or x.0.now i 0 ≢ byte))

pub parts_some : (byte : ℕ) (text : List ℕ) (r : Option (Bor (List ℕ) × Bor (List ℕ))) → Parts byte text r
    → IfSome r (λ p. (text ≡ p.0.now ++ byte ∷ p.1.now) × IsFreeOf byte p.0.now)
parts_some byte text None h = tt
parts_some byte text (Some p) h = (h.0, free_from byte p.0.now h.1)

pub parts_none : (byte : ℕ) (text : List ℕ) (r : Option (Bor (List ℕ) × Bor (List ℕ))) → Parts byte text r → IfNone r (IsFreeOf byte text)
parts_none byte text None h = free_from byte text h
parts_none byte text (Some p) h = tt

-- a text is cut in one way
pub cut_once : (byte : ℕ) (a b c d : List ℕ) → IsFreeOf byte a → IsFreeOf byte c → a ++ byte ∷ b ≡ c ++ byte ∷ d → (a ≡ c) × (b ≡ d)
cut_once byte [] b [] d p q e = (refl, cc)
cut_once byte [] b (x ∷ c) d p q e = let same : x ≡ byte = cc in absurd (q.0 same)
cut_once byte (x ∷ a) b [] d p q e = let same : x ≡ byte = cc in absurd (p.0 same)
cut_once byte (x ∷ a) b (y ∷ c) d p q e =
    let head : x ≡ y = cc in
    let tail : a ++ byte ∷ b ≡ c ++ byte ∷ d = cc in
    let rest = cut_once byte a b c d p.1 q.1 tail in
    (cc (head, rest.0), rest.1)

-- a text that is cut has the byte
pub cut_not_free : (byte : ℕ) (a b : List ℕ) → IsFreeOf byte (a ++ byte ∷ b) → ⊥
cut_not_free byte [] b p = p.0 refl
cut_not_free byte (x ∷ a) b p = cut_not_free byte a b p.1
