-- Pieces without the hyphens before them, and without a mark after them.
use Rattle.std.proofs.Common.{◌≡◌, ◌≢◌, ◌<◌, ◌-◌, ◌∙◌, ◌||◌, ◌++◌, ◌==◌, if◌then◌else◌, ℕ, Bool, false, true, List, [], ◌∷◌, IfSome, None, Option, Some, ap, arith, drop, length, lit<, refl, sym, take}
use Rattle.std.proofs.lemmas.Bool.Decides.{nat_tests}
use Rattle.std.proofs.lemmas.List.{drop_all, length-drop, take-append-drop}
use Rattle.std.proofs.lemmas.Str.{encode_ascii}
use Rattle.std.proofs.lemmas.Str.Pattern.{drop_at_char, strip_prefix_char}
use Rattle.std.proofs.Math.Utf8.{low_scalar}
use Rattle.std.specs.Char.{IsScalar, char_set_contains}
use Rattle.std.specs.Str.Pattern.{CutsPrefixes, FindsCharPrefix, FindsSuffixBy, HasCharAt, IsTrimStartMatches}
use Rattle.explain.specs.Topics.{is_mark, without_hyphens, without_mark}

-- ---- hyphens

-- a test of two bytes is right
is_byte : (a b : ℕ) → (a == b) ≡ true → a ≡ b
is_byte a b e = grind arith

after_one : (n : ℕ) (piece : List ℕ) → HasCharAt 45 piece 0 n → without_hyphens piece ≡ without_hyphens (drop n piece)
after_one n piece at = ap without_hyphens (drop_at_char 45 piece 0 n at (lit< tt))

after_some : (piece : List ℕ) (lengths : List ℕ) (rest : List ℕ) → CutsPrefixes (FindsCharPrefix 45) piece lengths rest → without_hyphens piece ≡ without_hyphens rest
after_some piece [] rest e = ap without_hyphens (sym e)
after_some piece (n ∷ lengths) rest h = after_some piece lengths h.0 h.1 ∙ after_one n h.0 h.2 ∙ ap without_hyphens (sym h.3)

-- the first byte is another
no_hyphen : (b : ℕ) (rest : List ℕ) (test : Bool) → (b == 45) ≡ test → (b ∷ rest ≢ 45 ∷ rest) → (if test then without_hyphens rest else b ∷ rest) ≡ b ∷ rest
no_hyphen b rest true e other = absurd (other (ap (λ x. x ∷ rest) (is_byte b 45 e)))
no_hyphen b rest false e other = refl

whole : (rest : List ℕ) (o : Option ℕ) → FindsCharPrefix 45 rest o → IfSome o (λ n. n ≡ 0) → without_hyphens rest ≡ rest
whole [] o finds none = refl
whole (b ∷ rest) None finds none = no_hyphen b rest (b == 45) refl (strip_prefix_char 45 (b ∷ rest) None finds (lit< tt) rest)
whole (b ∷ rest) (Some n) finds none =
    let same = ap length (drop_at_char 45 (b ∷ rest) 0 n finds (lit< tt)) in
    let left = length-drop n (b ∷ rest) in
    absurd (omega (arith, same, left, none))

pub trimmed : (piece rest : List ℕ) → IsTrimStartMatches (FindsCharPrefix 45) piece rest → rest ≡ without_hyphens piece
trimmed piece rest h = sym (after_some piece h.0.0 rest h.0.1 ∙ whole rest h.1.0 h.1.1 h.1.2)

-- ---- marks

-- the characters that the code strips are the marks
pub are_marks : (c : ℕ) → char_set_contains (58 ∷ 44 ∷ 46 ∷ []) c ≡ is_mark c
are_marks c = grind (arith, nat_tests)

mark_is_byte : (c : ℕ) → is_mark c ≡ true → c < 128
mark_is_byte c e = grind (arith, nat_tests)

-- a mark at the end is left out
marked : (front : List ℕ) (b : ℕ) → is_mark b ≡ true → without_mark (front ++ b ∷ []) ≡ front
marked [] b mark = ap (λ test. if test then [] else b ∷ []) mark
marked (a ∷ []) b mark = ap (λ rest. a ∷ rest) (marked [] b mark)
marked (a ∷ c ∷ front) b mark = ap (λ rest. a ∷ rest) (marked (c ∷ front) b mark)

last_char : (piece : List ℕ) (n c : ℕ) → c < 128 → HasCharAt c piece (length piece - n) (length piece) → piece ≡ take (length piece - n) piece ++ c ∷ []
last_char piece n c small at =
    sym (take-append-drop (length piece - n) piece)
    ∙ ap (λ rest. take (length piece - n) piece ++ rest)
    (drop_at_char c piece (length piece - n) (length piece) at small ∙ ap (λ rest. c ∷ rest) (drop_all (length piece) piece (omega arith)))

pub before_mark : (piece front : List ℕ) (n : ℕ) → FindsSuffixBy is_mark piece (Some n) → front ≡ take (length piece - n) piece → front ≡ without_mark piece
before_mark piece front n found e =
    let small = mark_is_byte found.0 found.1 in
    sym (ap without_mark (last_char piece n found.0 small found.2 ∙ ap (λ rest. rest ++ found.0 ∷ []) (sym e)) ∙ marked front found.0 found.1)

-- the text does not end with a mark
abbrev EndsOtherwise : List ℕ → Type 0
EndsOtherwise text = (front : List ℕ) (b : ℕ) → is_mark b ≡ true → text ≢ front ++ b ∷ []

one_byte : (b : ℕ) (test : Bool) → is_mark b ≡ test → EndsOtherwise (b ∷ []) → (if test then [] else b ∷ []) ≡ b ∷ []
one_byte b true e ends = absurd (ends [] b e refl)
one_byte b false e ends = refl

unmarked : (text : List ℕ) → EndsOtherwise text → without_mark text ≡ text
unmarked [] ends = refl
unmarked (b ∷ []) ends = one_byte b (is_mark b) refl ends
unmarked (b ∷ c ∷ text) ends = ap (λ rest. b ∷ rest) (unmarked (c ∷ text) (λ front d mark e. ends (b ∷ front) d mark (ap (λ rest. b ∷ rest) e)))

ends_otherwise : (piece : List ℕ) → FindsSuffixBy is_mark piece None → EndsOtherwise piece
ends_otherwise piece none front b mark e =
    let small = mark_is_byte b mark in
    let scalar : IsScalar b = low_scalar b (omega (arith, small)) in
    let no = none b front scalar (e ∙ ap (λ rest. front ++ rest) (sym (encode_ascii b small))) in
    cc

pub no_mark : (piece : List ℕ) → FindsSuffixBy is_mark piece None → piece ≡ without_mark piece
no_mark piece none = sym (unmarked piece (ends_otherwise piece none))
