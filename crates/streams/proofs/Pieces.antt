-- A stream in pieces and as one: the same lines, and one way only to have them.
use Rattle.std.proofs.Common.{◌≡◌, ◌≢◌, ℕ, zero, suc, ◌+◌, ◌≤◌, List, [], ◌∷◌, ◌++◌, length, take, refl, sym, ap, subst, ◌∙◌, arith}
use Rattle.std.specs.List.{AllByRecursion}
use Rattle.streams.specs.Lines.{stream_of, HasNoNewline, IsWithin, Splits, IsOver}
use Rattle.streams.proofs.Streams.{stream_append, stream_join, lines_join}

whole_join : (a b r t : List ℕ) (ls ms : List (List ℕ)) → a ≡ stream_of ls r → r ++ b ≡ stream_of ms t → a ++ b ≡ stream_of (ls ++ ms) t
whole_join a b r t ls ms x y = ap (λ u. u ++ b) x ∙ sym (stream_append ls r b) ∙ ap (stream_of ls) y ∙ sym (stream_join ls ms t)

pub joined : (limit : ℕ) (a b : List ℕ) (ls ms : List (List ℕ)) (r s : List ℕ) → Splits limit a ls r → Splits limit (r ++ b) ms s → Splits limit (a ++ b) (ls ++ ms) s
joined limit a b ls ms r s x y = record {
  whole = whole_join a b r s ls ms x.whole y.whole;
  each = lines_join limit ls ms x.each y.each;
  rest_within = y.rest_within;
}

pub joined_over : (limit : ℕ) (a b : List ℕ) (ls ms : List (List ℕ)) (r : List ℕ) → Splits limit a ls r → IsOver limit (r ++ b) ms → IsOver limit (a ++ b) (ls ++ ms)
joined_over limit a b ls ms r x y = record {
  over = y.over;
  whole = whole_join a b r y.over ls ms x.whole y.whole;
  each = lines_join limit ls ms x.each y.each;
  long = y.long;
  no_line = y.no_line;
}

-- ---- one way only

-- the bytes after the lines of a stream are no line of the limit themselves
abbrev IsNoLine : ℕ → List ℕ → Type 0
IsNoLine limit rest = (l t : List ℕ) → IsWithin limit l → rest ≢ l ++ 10 ∷ t

cut_not_free : (l t : List ℕ) → HasNoNewline (l ++ 10 ∷ t) → ⊥
cut_not_free [] t free = free.0 refl
cut_not_free (b ∷ l) t free = cut_not_free l t free.1

free_no_line : (limit : ℕ) (rest : List ℕ) → HasNoNewline rest → IsNoLine limit rest
free_no_line limit rest free l t within e = cut_not_free l t (subst HasNoNewline e free)

front_long : (n : ℕ) (l t : List ℕ) → HasNoNewline (take n (l ++ 10 ∷ t)) → n ≤ length l
front_long zero l t free = omega arith
front_long (suc n) [] t free = absurd (free.0 refl)
front_long (suc n) (b ∷ l) t free = let less = front_long n l t free.1 in omega arith

over_no_line : (limit : ℕ) (over : List ℕ) → HasNoNewline (take (limit + 1) over) → IsNoLine limit over
over_no_line limit over free l t within e =
    let long = front_long (limit + 1) l t (subst (λ o. HasNoNewline (take (limit + 1) o)) e free) in
    let most = within.1 in
    omega arith

same_line : (l m x y : List ℕ) → HasNoNewline l → HasNoNewline m → l ++ 10 ∷ x ≡ m ++ 10 ∷ y → (l ≡ m) × (x ≡ y)
same_line [] [] x y a b e = (refl, cc)
same_line [] (c ∷ m) x y a b e = absurd (b.0 cc)
same_line (c ∷ l) [] x y a b e = absurd (a.0 cc)
same_line (c ∷ l) (d ∷ m) x y a b e =
    let tails : l ++ 10 ∷ x ≡ m ++ 10 ∷ y = cc in
    let same = same_line l m x y a.1 b.1 tails in
    let first : c ≡ d = cc in
    (ap (λ z. z ∷ l) first ∙ ap (λ z. d ∷ z) same.0, same.1)

same_parts : (limit : ℕ) (ls ms : List (List ℕ)) (r s : List ℕ) → AllByRecursion (IsWithin limit) ls → AllByRecursion (IsWithin limit) ms → IsNoLine limit r → IsNoLine limit s
    → stream_of ls r ≡ stream_of ms s → (ls ≡ ms) × (r ≡ s)
same_parts limit [] [] r s a b open_r open_s e = (refl, e)
same_parts limit [] (m ∷ ms) r s a b open_r open_s e = absurd (open_r m (stream_of ms s) b.0 e)
same_parts limit (l ∷ ls) [] r s a b open_r open_s e = absurd (open_s l (stream_of ls r) a.0 (sym e))
same_parts limit (l ∷ ls) (m ∷ ms) r s a b open_r open_s e =
    let first = same_line l m (stream_of ls r) (stream_of ms s) a.0.0 b.0.0 e in
    let behind = same_parts limit ls ms r s a.1 b.1 open_r open_s first.1 in
    (ap (λ z. z ∷ ls) first.0 ∙ ap (λ z. m ∷ z) behind.0, behind.1)

pub one_split : (limit : ℕ) (a : List ℕ) (ls ms : List (List ℕ)) (r s : List ℕ) → Splits limit a ls r → Splits limit a ms s → (ls ≡ ms) × (r ≡ s)
one_split limit a ls ms r s x y =
    same_parts limit ls ms r s x.each y.each (free_no_line limit r x.rest_within.0) (free_no_line limit s y.rest_within.0) (sym x.whole ∙ y.whole)

pub one_over : (limit : ℕ) (a : List ℕ) (ls ms : List (List ℕ)) → IsOver limit a ls → IsOver limit a ms → ls ≡ ms
one_over limit a ls ms x y =
    let same = same_parts limit ls ms x.over y.over x.each y.each (over_no_line limit x.over x.no_line) (over_no_line limit y.over y.no_line) (sym x.whole ∙ y.whole) in
    same.0

pub not_both : (limit : ℕ) (a : List ℕ) (ls ms : List (List ℕ)) (r : List ℕ) → Splits limit a ls r → IsOver limit a ms → ⊥
not_both limit a ls ms r x y =
    let same = same_parts limit ls ms r y.over x.each y.each (free_no_line limit r x.rest_within.0) (over_no_line limit y.over y.no_line) (sym x.whole ∙ y.whole) in
    let lengths : length r ≡ length y.over = ap length same.1 in
    let most = x.rest_within.1 in
    let long = y.long in
    omega arith
