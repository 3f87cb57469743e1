-- The result of a binary search among registries in byte order of their codes: the index of the registry of a code, or
-- that there is none. All is stated in ranks, numbers whose order is that of codes: those of the registries rise, and
-- at most one of them is the code's.
use Rattle.std.proofs.Common.{◌≡◌, ◌⊎◌, inl, inr, ℕ, zero, suc, ◌<◌, ◌≤◌, ◌==◌, List, [], ◌∷◌, length, get_or, ◌+◌, Bool, Some, None, Result, Ok, Err, true, false, refl, sym, ap, ◌∙◌, subst, arith, eq-eqb}
use Rattle.std.specs.Prelude.{MatchResult}
use Rattle.std.specs.List.{AllByRecursion, position_from}
use Rattle.std.specs.List.Sorted.{IsNonDecreasingBy, IsBinarySearchResult}
use Rattle.std.specs.Result.{result_ok}
use Rattle.std.specs.Ordering.{MatchOrdering, ordering_index}
use Rattle.std.specs.declared.cmp.Ordering.{Ordering}
use Rattle.std.specs.declared.cmp.Ordering.TheVariants.{Less, Equal, Greater}
use Rattle.std.proofs.lemmas.Bool.{and_from, cases_Bool}
use Rattle.units.specs.Apart.{Pairwise}
use Rattle.units.specs.Code.{same_code}
use Rattle.units.specs.Keys.{code_cmp}
use Rattle.units.specs.declared.code.Code.{Code}
use Rattle.units.proofs.Same.{code_of_same}
use Rattle.units.proofs.UnitOrder.{code_rank, codes_compare, code_below}
use Rattle.scheme.specs.declared.members.SchemeRegistry.{SchemeRegistry}

abbrev pub AreOrdered : List SchemeRegistry → Type 0
AreOrdered members = Pairwise (λ a b. code_cmp a.code b.code ≡ Less) members

abbrev pub has_code : Code → SchemeRegistry → Bool
has_code c m = same_code m.code c

-- ---- a comparison in ranks

ranks_equal : (a b : Code) → code_cmp a b ≡ Equal → code_rank a ≡ code_rank b
ranks_equal a b e = subst (λ r. MatchOrdering r (code_rank a < code_rank b) (code_rank a ≡ code_rank b) (code_rank b < code_rank a)) e (codes_compare a b)

equal_same : (a b : Code) → code_cmp a b ≡ Equal → same_code a b ≡ true
equal_same a b e =
    let r = ranks_equal a b e in
    let k = a.letters in
    let l = b.letters in
    let first : a.first ≡ b.first = omega arith in
    let second : a.second ≡ b.second = omega arith in
    and_from (a.first == b.first) (a.second == b.second) (eq-eqb a.first b.first first) (eq-eqb a.second b.second second)

unequal_other : (a b : Code) → (code_rank a ≡ code_rank b → ⊥) → same_code a b ≡ false
unequal_other a b h = elim (cases_Bool (same_code a b)) [
  | inl is ↦ absurd (h (ap code_rank (code_of_same a b is)))
  | inr not ↦ not
]

rises : (a b c : Code) → code_rank a ≤ code_rank b → ordering_index (code_cmp a c) ≤ ordering_index (code_cmp b c)
rises a b c le = elim (code_cmp a c) as (λ r. MatchOrdering r (code_rank a < code_rank c) (code_rank a ≡ code_rank c) (code_rank c < code_rank a) → ordering_index r ≤ ordering_index (code_cmp b c)) [
  | Less ↦ λ _. omega arith
  | Equal ↦ λ e. above (code_cmp b c) (codes_compare b c) (omega arith)
  | Greater ↦ λ g. top (code_cmp b c) (codes_compare b c) (omega arith)
] (codes_compare a c)
  where
    above : (r : Ordering) → MatchOrdering r (code_rank b < code_rank c) (code_rank b ≡ code_rank c) (code_rank c < code_rank b) → code_rank c ≤ code_rank b → 1 ≤ ordering_index r
    above Less h le = absurd (omega arith)
    above Equal h le = omega arith
    above Greater h le = omega arith

    top : (r : Ordering) → MatchOrdering r (code_rank b < code_rank c) (code_rank b ≡ code_rank c) (code_rank c < code_rank b) → code_rank c < code_rank b → 2 ≤ ordering_index r
    top Less h le = absurd (omega arith)
    top Equal h le = absurd (omega arith)
    top Greater h le = omega arith

-- ---- the registries' ranks

below_each : (m d : SchemeRegistry) (ms : List SchemeRegistry) (i : ℕ) → AllByRecursion (λ y. code_cmp m.code y.code ≡ Less) ms → i < length ms → code_rank m.code < code_rank (get_or ms i d).code
below_each m d [] i all lt = absurd (omega arith)
below_each m d (y ∷ ms) zero all lt = code_below m.code y.code all.0
below_each m d (y ∷ ms) (suc i) all lt = below_each m d ms i all.1 (omega arith)

ascend : (ms : List SchemeRegistry) (i j : ℕ) (d : SchemeRegistry) → AreOrdered ms → i ≤ j → j < length ms → code_rank (get_or ms i d).code ≤ code_rank (get_or ms j d).code
ascend [] i j d ordered le lt = absurd (omega arith)
ascend (m ∷ ms) zero zero d ordered le lt = omega arith
ascend (m ∷ ms) zero (suc j) d ordered le lt = let h = below_each m d ms j ordered.0 (omega arith) in omega arith
ascend (m ∷ ms) (suc i) zero d ordered le lt = absurd (omega arith)
ascend (m ∷ ms) (suc i) (suc j) d ordered le lt = ascend ms i j d ordered.1 (omega arith) (omega arith)

rising : (ms : List SchemeRegistry) (c : Code) → AreOrdered ms → IsNonDecreasingBy (λ y. ordering_index (code_cmp y.code c)) ms
rising ms c ordered i j d le lt = rises (get_or ms i d).code (get_or ms j d).code c (ascend ms i j d ordered le lt)

-- ---- what is found

found : (ms : List SchemeRegistry) (c : Code) (k i : ℕ) → AreOrdered ms → i < length ms → ((d : SchemeRegistry) → code_cmp (get_or ms i d).code c ≡ Equal) → position_from (has_code c) k ms ≡ Some (k + i)
found [] c k i ordered lt is = absurd (omega arith)
found (m ∷ ms) c k zero ordered lt is = rw (equal_same m.code c (is m)) (ap Some (omega arith))
found (m ∷ ms) c k (suc i) ordered lt is =
    let rank = ranks_equal (get_or ms i m).code c (is m) in
    let less = below_each m m ms i ordered.0 (omega arith) in
    let other = unequal_other m.code c (λ e. omega arith) in
    rw other (found ms c (k + 1) i ordered.1 (omega arith) is ∙ ap Some (omega arith))

missing : (ms : List SchemeRegistry) (c : Code) (k : ℕ) → ((i : ℕ) (d : SchemeRegistry) → i < length ms → code_cmp (get_or ms i d).code c ≡ Equal → ⊥) → position_from (has_code c) k ms ≡ None
missing [] c k none = refl
missing (m ∷ ms) c k none =
    let unlike = none zero m (omega arith) in
    let other = unequal_other m.code c (λ e. unlike (equal m.code c e)) in
    rw other (missing ms c (k + 1) (λ i d lt. none (suc i) d (omega arith)))
  where
    equal : (a b : Code) → code_rank a ≡ code_rank b → code_cmp a b ≡ Equal
    equal a b e = elim (code_cmp a b) as (λ r. MatchOrdering r (code_rank a < code_rank b) (code_rank a ≡ code_rank b) (code_rank b < code_rank a) → r ≡ Equal) [
      | Less ↦ λ h. absurd (omega arith)
      | Equal ↦ λ h. refl
      | Greater ↦ λ h. absurd (omega arith)
    ] (codes_compare a b)

-- the search returns the registry's index, or that there is none
pub searched : (ms : List SchemeRegistry) (c : Code) (r : Result ℕ ℕ) → AreOrdered ms → MatchResult r (λ i. i < length ms) (λ i. i ≤ length ms) → IsBinarySearchResult (λ m. code_cmp m.code c) ms r
    → result_ok r ≡ position_from (has_code c) 0 ms
searched ms c (Ok i) ordered lt is = let same : i ≡ 0 + i = omega arith in ap Some same ∙ sym (found ms c 0 i ordered lt is)
searched ms c (Err i) ordered le is =
    let parts = is (rising ms c ordered) in
    sym
    (missing ms c 0 (λ k d lt e. elim (cases_at k i) [
      | inl before ↦ let less = parts.0 k d (omega arith) before in absurd (cc (less, e))
      | inr after ↦ let greater = parts.1 k d after lt in absurd (cc (greater, e))
    ]))
  where
    cases_at : (k i : ℕ) → (k < i) ⊎ (i ≤ k)
    cases_at k zero = inr (omega arith)
    cases_at zero (suc i) = inl (omega arith)
    cases_at (suc k) (suc i) = elim (cases_at k i) [ inl h ↦ inl (omega arith) | inr h ↦ inr (omega arith) ]
