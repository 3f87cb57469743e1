-- The bytes that are held of a line, which is read byte by byte.
use Rattle.std.proofs.Common.{◌≡◌, ◌≢◌, ◌<◌, ◌≤◌, ◌+◌, ℕ, zero, suc, List, [], ◌∷◌, ◌++◌, Option, length, take, refl, sym, ap, ◌∙◌, subst, arith, append-nil, append_assoc}
use Rattle.std.proofs.KnownBytes.{Consumes-nil, Consumes-trans}
use Rattle.std.proofs.lemmas.List.{take_all, length-append, take-append-le}
use Rattle.std.specs.Io.KnownBytes.{Consumes}
use Rattle.units.specs.Limits.{longest_line}
use Rattle.streams.specs.Lines.{HasNoNewline}
use Rattle.one_node.specs.Reading.{ReadsLine, ReadsOn, held_of}

-- a list that isn't longer is held as a whole
pub held_whole : (xs : List ℕ) → length xs ≤ longest_line + 1 → held_of xs ≡ xs
held_whole xs low = take_all (longest_line + 1) xs low

take_again : (n : ℕ) (xs ys : List ℕ) → take n (take n xs ++ ys) ≡ take n (xs ++ ys)
take_again zero xs ys = refl
take_again (suc n) [] ys = refl
take_again (suc n) (x ∷ xs) ys = ap (λ (l : List ℕ). x ∷ l) (take_again n xs ys)

pub held_again : (xs ys : List ℕ) → held_of (held_of xs ++ ys) ≡ held_of (xs ++ ys)
held_again xs ys = take_again (longest_line + 1) xs ys

short_front : (n : ℕ) (xs : List ℕ) → length (take (suc n) xs) ≤ n → length xs ≤ n
short_front n [] low = omega arith
short_front zero (x ∷ xs) low = absurd (omega (arith, low))
short_front (suc n) (x ∷ xs) low = let rest = short_front n xs (omega (arith, low)) in omega (arith, rest)

pub long_front : (n : ℕ) (xs : List ℕ) → length (take n xs) ≤ length xs
long_front zero xs = omega arith
long_front (suc n) [] = omega arith
long_front (suc n) (x ∷ xs) = omega (arith, long_front n xs)

pub held_short : (xs : List ℕ) → length (held_of xs) ≤ longest_line → length xs ≤ longest_line
held_short xs low = short_front longest_line xs low

pub held_long : (xs : List ℕ) → longest_line < length (held_of xs) → longest_line < length xs
held_long xs long = let low = long_front (longest_line + 1) xs in omega (arith, low, long)

-- one byte more than was held before
pub held_more : (held : List ℕ) (b : ℕ) → length held ≤ longest_line + 1 → longest_line < length held → held ≡ held_of (held ++ b ∷ [])
held_more held b low long = sym (take-append-le (longest_line + 1) held (b ∷ []) (omega (arith, long)) ∙ take_all (longest_line + 1) held low)

none_more : (bytes : List ℕ) (b : ℕ) → HasNoNewline bytes → b ≢ 10 → HasNoNewline (bytes ++ b ∷ [])
none_more [] b none differs = (differs, tt)
none_more (x ∷ xs) b none differs = (none.0, none_more xs b none.1 differs)

pub reads_none : (held : List ℕ) (r : Option (List ℕ)) → length held ≤ longest_line + 1 → ReadsOn held held r r []
reads_none held r low = record {
  consumed = Consumes-nil r;
  none = tt;
  held = sym (ap held_of (append-nil held) ∙ held_whole held low);
}

pub reads_more : (old mid new : List ℕ) (r s t : Option (List ℕ)) (bytes : List ℕ) (b : ℕ) → ReadsOn old mid r s bytes → Consumes s t (b ∷ []) → b ≢ 10 → new ≡ held_of (mid ++ b ∷ []) → ReadsOn old new r t (bytes ++ b ∷ [])
reads_more old mid new r s t bytes b read one differs held = record {
  consumed = Consumes-trans _ _ _ _ _ read.consumed one;
  none = none_more bytes b read.none differs;
  held = held ∙ (ap (λ (xs : List ℕ). held_of (xs ++ b ∷ [])) read.held ∙ (held_again (old ++ bytes) (b ∷ []) ∙ ap held_of (append_assoc old bytes (b ∷ []))));
}

pub reads_line : (old mid : List ℕ) (r s t : Option (List ℕ)) (bytes : List ℕ) → ReadsOn old mid r s bytes → Consumes s t (10 ∷ []) → ReadsLine old mid r t bytes
reads_line old mid r s t bytes read one = record { consumed = Consumes-trans _ _ _ _ _ read.consumed one; none = read.none; held = read.held }
