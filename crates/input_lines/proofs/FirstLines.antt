-- The first line of an input.
use Rattle.std.proofs.Common.{◌≡◌, ℕ, zero, suc, ◌+◌, ◌<◌, ◌≤◌, List, [], ◌∷◌, ◌++◌, length, take, refl, sym, ap, ◌∙◌, arith, subst, ◌⊎◌, inl, inr, min}
use Rattle.std.proofs.lemmas.Bool.{cases_lt}
use Rattle.std.proofs.lemmas.Bool.Decides.{eqb_tells}
use Rattle.units.specs.Text.{IsFreeOf}
use Rattle.units.proofs.Cuts.{cut_once, cut_not_free}
use Rattle.streams.specs.Inputs.{longest_input_line}
use Rattle.input_lines.specs.Lines.{Begins, IsLine, IsTooLong}

-- ---- an input has one first line

pub line_once : (bytes a b c d : List ℕ) → Begins bytes a b → Begins bytes c d → (a ≡ c) × (b ≡ d)
line_once bytes a b c d p q = cut_once 10 a b c d p.free q.free (sym p.spelled ∙ q.spelled)

pub line_ends : (bytes line rest : List ℕ) → Begins bytes line rest → IsFreeOf 10 bytes → ⊥
line_ends bytes line rest p free = cut_not_free 10 line rest (subst (IsFreeOf 10) p.spelled free)

pub not_too_long : (bytes line rest : List ℕ) (room : ℕ) → IsLine bytes room line rest → IsTooLong bytes room → ⊥
not_too_long bytes line rest room is (inl f) =
    let same : length line ≡ length f.0 = ap length (line_once bytes line rest f.0 f.1 is.begins f.2).0 in
    elim f.3 [
      | inl over ↦ omega (arith, same, over, is.short)
      | inr over ↦ omega (arith, same, over, is.within)
    ]
not_too_long bytes line rest room is (inr f) = line_ends bytes line rest is.begins f.0

-- ---- limits

-- each text begins with a line, or has no newline
parts : (bytes : List ℕ) → ((line rest : List ℕ) × Begins bytes line rest) ⊎ IsFreeOf 10 bytes
parts [] = inr tt
parts (b ∷ bytes) =
    elim (eqb_tells b 10) [
      | inl yes_is ↦ inl ([], bytes, record { spelled = ap (λ x. x ∷ bytes) yes_is.1; free = tt })
      | inr not_is ↦ elim (parts bytes) [
        | inl p ↦ inl (b ∷ p.0, p.1, record { spelled = ap (λ t. b ∷ t) p.2.spelled; free = (not_is.1, p.2.free) })
        | inr free ↦ inr (not_is.1, free)
      ]
    ]

front_short : (line rest : List ℕ) (w : ℕ) → IsFreeOf 10 (take w (line ++ 10 ∷ rest)) → w ≤ length line
front_short line rest zero free = omega arith
front_short [] rest (suc w) free = absurd (free.0 refl)
front_short (b ∷ line) rest (suc w) free = let less = front_short line rest w free.1 in omega arith

-- no newline up to a byte that is over a limit
over_one : (bytes : List ℕ) (limit room : ℕ) → ((limit ≡ longest_input_line) ⊎ (limit ≡ room)) → limit < length bytes → IsFreeOf 10 (take (limit + 1) bytes) → IsTooLong bytes room
over_one bytes limit room which more free =
    elim (parts bytes) [
      | inl p ↦
          let long : limit + 1 ≤ length p.0 = front_short p.0 p.1 (limit + 1) (subst (λ b. IsFreeOf 10 (take (limit + 1) b)) p.2.spelled free) in
          elim which [
            | inl line ↦ inl (p.0, p.1, p.2, inl (omega (arith, line, long)))
            | inr input ↦ inl (p.0, p.1, p.2, inr (omega (arith, input, long)))
          ]
      | inr none ↦ elim which [
        | inl line ↦ inr (none, inl (omega (arith, line, more)))
        | inr input ↦ inr (none, inr (omega (arith, input, more)))
      ]
    ]

pub over_limit : (bytes : List ℕ) (limit room : ℕ) → limit ≡ min longest_input_line room → limit < length bytes → IsFreeOf 10 (take (limit + 1) bytes) → IsTooLong bytes room
over_limit bytes limit room least =
    over_one bytes limit room (elim (cases_lt room longest_input_line) [
      | inl less ↦ inr (omega (arith, least, less))
      | inr more ↦ inl (omega (arith, least, more))
    ])

-- a newline that is itself over the limit of the input
pub newline_over : (bytes line rest : List ℕ) (room : ℕ) → IsFreeOf 10 line → bytes ≡ line ++ 10 ∷ rest → room < length line + 1 → IsTooLong bytes room
newline_over bytes line rest room free cut over = inl (line, rest, record { spelled = cut; free = free }, inr over)
