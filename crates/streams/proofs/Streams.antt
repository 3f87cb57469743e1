-- Bytes as lines and the bytes after them, cut at one newline after another.
use Rattle.std.proofs.Common.{◌≡◌, ℕ, zero, suc, ◌+◌, ◌-◌, ◌<◌, ◌≤◌, List, [], ◌∷◌, ◌++◌, Some, None, length, get_or, take, drop, refl, sym, ap, subst, ◌∙◌, arith, add-one, append_assoc, length-append}
use Rattle.std.proofs.Math.Seq.{split_at}
use Rattle.std.proofs.lemmas.List.{take-append-drop, take-append-le, length-take-le, get_or-take, take_rest}
use Rattle.std.proofs.lemmas.Bool.{eqb-true, eq-eqb}
use Rattle.std.specs.List.{AllByRecursion}
use Rattle.memchr.specs.Find.{IsFirstByte, is_byte}
use Rattle.units.proofs.Cuts.{free_from}
use Rattle.streams.specs.Lines.{stream_of, HasNoNewline, IsWithin, Splits, IsOver}
use Rattle.streams.specs.Splitting.{rest_after}

pub stream_append : (ls : List (List ℕ)) (rest xs : List ℕ) → stream_of ls (rest ++ xs) ≡ stream_of ls rest ++ xs
stream_append [] rest xs = refl
stream_append (l ∷ ls) rest xs = ap (λ t. l ++ 10 ∷ t) (stream_append ls rest xs) ∙ sym (append_assoc l (10 ∷ stream_of ls rest) xs)

pub stream_join : (ls ms : List (List ℕ)) (rest : List ℕ) → stream_of (ls ++ ms) rest ≡ stream_of ls (stream_of ms rest)
stream_join [] ms rest = refl
stream_join (l ∷ ls) ms rest = ap (λ t. l ++ 10 ∷ t) (stream_join ls ms rest)

pub lines_join : (limit : ℕ) (ls ms : List (List ℕ)) → AllByRecursion (IsWithin limit) ls → AllByRecursion (IsWithin limit) ms → AllByRecursion (IsWithin limit) (ls ++ ms)
lines_join limit [] ms a b = b
lines_join limit (l ∷ ls) ms a b = (a.0, lines_join limit ls ms a.1 b)

-- ---- the bytes held after lines

rest_pushed : (held : List ℕ) (ls : List (List ℕ)) (l tail : List ℕ) → rest_after held (ls ++ l ∷ []) tail ≡ tail
rest_pushed held [] l tail = refl
rest_pushed held (k ∷ ls) l tail = refl

-- ---- bytes without a newline

pub free_join : (xs ys : List ℕ) → HasNoNewline xs → HasNoNewline ys → HasNoNewline (xs ++ ys)
free_join [] ys a b = b
free_join (x ∷ xs) ys a b = (a.0, free_join xs ys a.1 b)

free_front : (n : ℕ) (xs : List ℕ) → HasNoNewline xs → HasNoNewline (take n xs)
free_front zero xs free = tt
free_front (suc n) [] free = tt
free_front (suc n) (x ∷ xs) free = (free.0, free_front n xs free.1)

-- ---- cutting

-- as far as the lines have been cut, a line has begun, and the rest is left
pub record Cutting (limit : ℕ) (held piece : List ℕ) (lines : List (List ℕ)) (begun left : List ℕ) : Type 0 where
  pub whole : held ++ piece ≡ stream_of lines (begun ++ left)
  pub each : AllByRecursion (IsWithin limit) lines
  pub within : IsWithin limit begun
  pub rest : (tail : List ℕ) → rest_after held lines tail ≡ begun ++ tail

-- a newline ends the line
pub ends_line : (limit : ℕ) (held piece : List ℕ) (ls : List (List ℕ)) (begun left line after : List ℕ) → IsWithin (limit - length begun) line → left ≡ line ++ 10 ∷ after
    → Cutting limit held piece ls begun left → Cutting limit held piece (ls ++ (begun ++ line) ∷ []) [] after
ends_line limit held piece ls begun left line after part cut s =
    let room : length begun + length line ≤ limit = omega (arith, s.within.1, part.1) in
    record {
      whole = s.whole ∙ ap (λ t. stream_of ls (begun ++ t)) cut ∙ ap (stream_of ls) (sym (append_assoc begun line (10 ∷ after))) ∙ sym (stream_join ls ((begun ++ line) ∷ []) after);
      each = lines_join limit ls ((begun ++ line) ∷ []) s.each ((free_join begun line s.within.0 part.0, omega (arith, length-append begun line)), tt);
      within = (tt, omega arith);
      rest = rest_pushed held ls (begun ++ line);
    }

-- the line is over the limit before it ends
over_front : (limit : ℕ) (held piece : List ℕ) (ls : List (List ℕ)) (begun left : List ℕ) (end : ℕ) → HasNoNewline (take end left) → end ≤ length left → limit < length begun + end
    → Cutting limit held piece ls begun left → IsOver limit (held ++ piece) ls
over_front limit held piece ls begun left end free low long s =
    let part = take end left in
    let small : length part ≡ end = length-take-le end left low in
    let parts : begun ++ left ≡ (begun ++ part) ++ drop end left = ap (λ t. begun ++ t) (sym (take-append-drop end left)) ∙ sym (append_assoc begun part (drop end left)) in
    let front : take (limit + 1) (begun ++ left) ≡ take (limit + 1) (begun ++ part) =
    ap (take (limit + 1)) parts ∙ take-append-le (limit + 1) (begun ++ part) (drop end left) (omega (arith, length-append begun part)) in
    record {
      over = begun ++ left;
      whole = s.whole;
      each = s.each;
      long = omega (arith, length-append begun left);
      no_line = subst HasNoNewline (sym front) (free_front (limit + 1) (begun ++ part) (free_join begun part s.within.0 free));
    }

pub over_limit : (limit : ℕ) (held piece : List ℕ) (ls : List (List ℕ)) (begun left : List ℕ) → limit - length begun < length left → HasNoNewline (take (limit - length begun + 1) left)
    → Cutting limit held piece ls begun left → IsOver limit (held ++ piece) ls
over_limit limit held piece ls begun left long free s = over_front limit held piece ls begun left (limit - length begun + 1) free (omega arith) (omega (arith, s.within.1)) s

-- the bytes that are left have no newline and are within the limit
pub cut_up : (limit : ℕ) (held piece : List ℕ) (ls : List (List ℕ)) (begun left : List ℕ) → IsWithin (limit - length begun) left → Cutting limit held piece ls begun left
    → Splits limit (held ++ piece) ls (rest_after held ls left)
cut_up limit held piece ls begun left part s = record {
  whole = s.whole ∙ ap (stream_of ls) (sym (s.rest left));
  each = s.each;
  rest_within = subst (IsWithin limit) (sym (s.rest left)) (free_join begun left s.within.0 part.0, omega (arith, length-append begun left, s.within.1, part.1));
}
