-- The tests for faults, and the facts that follow from their results.
use Rattle.std.proofs.Common.{◌≡◌, ◌≢◌, ◌==◌, inl, inr, ℕ, ◌+◌, ◌-◌, ◌<◌, ◌≤◌, ◌⊎◌, Bool, true, false, true≢false, List, [], ◌∷◌, ◌++◌, length, get_or, take, map, refl, sym, ap, subst, ◌∙◌, arith, Result, Ok, Err, Ordering, nat_cmp}
use Rattle.std.specs.Prelude.{IsPermutation, IsTrue}
use Rattle.std.specs.List.{AllByRecursion, AllAdjacentBelow, Contains}
use Rattle.std.specs.List.Sorted.{IsNonDecreasing, IsBinarySearchResult, IsSortedByKey}
use Rattle.std.specs.Ordering.{is_lt}
use Rattle.std.specs.declared.cmp.Ordering.TheVariants.{Less}
use Rattle.std.specs.Fn.{Called, ComputesKey}
use Rattle.std.specs.Result.{is_err}
use denote.Ref.{Bor}
use denote.Param.Members.{Mut}
use Rattle.std.proofs.lemmas.Fn.{always_returns_same}
use Rattle.std.proofs.lemmas.Bool.{eqb-true, eq-eqb, cases_lt}
use Rattle.std.proofs.lemmas.List.{take_more, get_or_default, get_or-map, length-map}
use Rattle.std.proofs.lemmas.List.Folds.{Any-from_list_any, list_any_at}
use Rattle.std.proofs.lemmas.List.Sorted.{searched, list_any-IsPermutation, IsPermutation-sym, all_adjacent_more}
use Rattle.units.specs.Apart.{Pairwise, AreApart, AllApart}
use Rattle.units.specs.Code.{same_code}
use Rattle.units.specs.Keys.{code_cmp, unit_cmp, first_unit}
use Rattle.units.specs.Unit.{has_unit}
use Rattle.units.specs.declared.block.Block.{Block}
use Rattle.units.specs.declared.block.Unit.{Unit as Serial}
use Rattle.units.specs.declared.code.Code.{Code}
use Rattle.units.proofs.Same.{codes_alike, same_code-refl}
use Rattle.units.proofs.UnitOrder.{code_rank, code_below, code_less, code_up}
use Rattle.scheme.specs.Grammar.{HasNoTwins}
use Rattle.scheme.specs.Reading.{AreSorted, IsKnown}
use Rattle.scheme.specs.declared.members.SchemeRegistry.{SchemeRegistry}
use Rattle.scheme.proofs.Pairs.{each_append, each_at, pair_at, pairwise_weaker}
use Rattle.scheme.proofs.Moves.{pairs_moved}
use Rattle.scheme.proofs.Climbs.{all_from_neighbours, one_order}
use Rattle.scheme.proofs.BlocksInOrder.{EndsBefore, ends_transitive, apart_behind, shared, behind}

-- ---- results

pub yes : {P : Type 0} → P → (true ≡ true → P) × (P → true ≡ true)
yes p = ((λ _. p), (λ _. refl))

pub no : {P : Type 0} → (P → ⊥) → (false ≡ true → P) × (P → false ≡ true)
no f = ((λ e. absurd (true≢false (sym e))), (λ p. absurd (f p)))

pub so : {P : Type 0} (b : Bool) → (b ≡ true → P) × (P → b ≡ true) → b ≡ true → P
so b h e = h.0 e

pub not_so : {P : Type 0} (b : Bool) → (b ≡ true → P) × (P → b ≡ true) → b ≡ false → P → ⊥
not_so b h e p = true≢false (sym (h.1 p) ∙ e)

-- ---- loops

pub each_here : {X : Type 0} (P : X → Type 0) (xs : List X) (i : ℕ) (x : X) → i < length xs → x ≡ get_or xs i x → AllByRecursion P xs → P x
each_here P xs i x lt is all = subst P (sym is) (each_at P xs i x lt all)

pub each_step : {X : Type 0} (P : X → Type 0) (xs : List X) (i : ℕ) (x : X) → i < length xs → x ≡ get_or xs i x → AllByRecursion P (take i xs) → P x → AllByRecursion P (take (i + 1) xs)
each_step P xs i x lt is all p =
    subst (AllByRecursion P) (sym (take_more xs i x lt ∙ ap (λ y. take i xs ++ y ∷ []) (sym is))) (each_append P (take i xs) (x ∷ []) all (p, tt))

-- what holds of each element and the one before it
pub pair_here : {X : Type 0} (R : X → X → Type 0) (xs : List X) (i : ℕ) (x y : X) → 1 ≤ i → i < length xs → x ≡ get_or xs (i - 1) x → y ≡ get_or xs i y → Pairwise R xs → R x y
pair_here R xs i x y some lt xis yis pairs =
    subst (λ z. R z y) (sym xis)
    (subst (λ z. R (get_or xs (i - 1) x) z) (sym (yis ∙ get_or_default xs i y x lt)) (pair_at R xs (i - 1) i x (omega arith) lt pairs))

-- one element further, where R holds of the one before it and it
pub neighbours_more : {X : Type 0} (R : X → X → Type 0) (xs : List X) (i : ℕ) (x y : X) → 1 ≤ i → i < length xs → x ≡ get_or xs (i - 1) x → y ≡ get_or xs i y → R x y → AllAdjacentBelow R xs i
    → AllAdjacentBelow R xs (i + 1)
neighbours_more R xs i x y some lt xis yis here before = all_adjacent_more xs R i (omega arith) before (λ d.
    subst (λ z. R z (get_or xs i d)) (xis ∙ get_or_default xs (i - 1) x d (omega arith)) (subst (R x) (yis ∙ get_or_default xs i y d lt) here))

-- ---- sorts

-- an element and the one before it, after a sort
pub sorted_here : {X K : Type 0} (key : X → K) (cmp : K → K → Ordering) (xs : List X) (i : ℕ) (x y : X) → 1 ≤ i → i < length xs → x ≡ get_or xs (i - 1) x → y ≡ get_or xs i y → IsSortedByKey key cmp xs
    → is_lt (cmp (key y) (key x)) ≡ false
sorted_here key cmp xs i x y some lt xis yis sorted =
    let e : (i - 1) + 1 ≡ i = omega arith in
    subst (λ z. is_lt (cmp (key y) (key z)) ≡ false) (sym xis)
    (subst (λ z. is_lt (cmp (key z) (key (get_or xs (i - 1) x))) ≡ false) (sym (yis ∙ get_or_default xs i y x lt))
    (subst (λ n. is_lt (cmp (key (get_or xs n x)) (key (get_or xs (i - 1) x))) ≡ false) e (sorted (i - 1) x (omega arith) (omega arith))))

pub sorted_by : {X K F : Type 0} (key : X → K) (cmp : K → K → Ordering) {g : Mut F (Bor X × Unit {0}) K} {f : F} (xs : List X) → ((n : X → K) → ComputesKey g n f → IsSortedByKey n cmp xs)
    → ((a : Bor X × Unit {0}) (r : K) (f' : F) → Called g f a r f' → (r ≡ key a.0.now) × (f' ≡ f)) → IsSortedByKey key cmp xs
sorted_by key cmp {g = g} {f = f} xs up h = up key (always_returns_same g (λ a r. r ≡ key a.0.now) f h)

-- ---- numbers

pub all_different : (xs : List ℕ) (i : ℕ) → length xs ≤ i → AllAdjacentBelow (λ x y. x < y) xs i → HasNoTwins xs
all_different xs i le rise =
    pairwise_weaker (λ x y. x < y) (λ x y. x ≢ y) (λ x y lt e. absurd (omega arith)) xs (all_from_neighbours (λ x y. x < y) (λ x y z p q. omega arith) xs (λ k d lt. rise k d (omega arith)))

pub not_different : (xs : List ℕ) (i : ℕ) → 1 ≤ i → i < length xs → get_or xs (i - 1) 0 ≡ get_or xs i 0 → HasNoTwins xs → ⊥
not_different xs i some lt e apart = pair_at (λ x y. x ≢ y) xs (i - 1) i 0 (omega arith) lt apart e

pub twins_as : (numbers xs ys zs : List ℕ) → xs ≡ numbers → IsPermutation xs ys → zs ≡ ys → HasNoTwins zs → HasNoTwins numbers
twins_as numbers xs ys zs e s f apart = subst HasNoTwins e (pairs_moved (λ x y. x ≢ y) (λ x y h g. h (sym g)) ys xs (IsPermutation-sym xs ys s) (subst HasNoTwins f apart))

pub twins_too : (numbers xs ys zs : List ℕ) → xs ≡ numbers → IsPermutation xs ys → zs ≡ ys → HasNoTwins numbers → HasNoTwins zs
twins_too numbers xs ys zs e s f apart = subst HasNoTwins (sym f) (pairs_moved (λ x y. x ≢ y) (λ x y h g. h (sym g)) xs ys s (subst HasNoTwins (sym e) apart))

pub known_as : (numbers xs ys zs : List ℕ) → xs ≡ numbers → IsPermutation xs ys → zs ≡ ys → (n : ℕ) → IsKnown zs n ≡ IsKnown numbers n
known_as numbers xs ys zs e s f n = ap (λ l. IsKnown l n) f ∙ ap IsTrue (sym (list_any-IsPermutation (λ m. m == n) xs ys s)) ∙ ap (λ l. IsKnown l n) e

pub found : (xs : List ℕ) (x : ℕ) (r : Result ℕ ℕ) → IsBinarySearchResult (λ y. nat_cmp y x) xs r → IsNonDecreasing xs → is_err r ≡ false → IsKnown xs x
found xs x (Ok i) h up e = let s = searched xs x (Ok i) h (λ i j le lt. up i j 0 le lt) in list_any_at (λ m. m == x) xs i 0 s.0 (eq-eqb _ _ s.1)
found xs x (Err i) h up e = absurd (true≢false e)

pub not_found : (xs : List ℕ) (x : ℕ) (r : Result ℕ ℕ) → IsBinarySearchResult (λ y. nat_cmp y x) xs r → IsNonDecreasing xs → is_err r ≡ true → IsKnown xs x → ⊥
not_found xs x (Ok i) h up e known = true≢false (sym e)
not_found xs x (Err i) h up e known =
    let s = searched xs x (Err i) h (λ i j le lt. up i j 0 le lt) in
    let any = Any-from_list_any (λ m. m == x) xs known in
    let k = any.0 in
    let lt : k < length xs = any.2 in
    let here : any.1 ≡ x = eqb-true any.1 x any.4 in
    let at : get_or xs k 0 ≡ x = get_or_default xs k 0 any.1 lt ∙ any.3 ∙ here in
    elim (cases_lt k i) [
      | inl less ↦ let b = s.1 k less in absurd (omega arith)
      | inr more ↦ let a = s.2 k more lt in absurd (omega arith)
    ]

-- ---- codes

-- the code of a comes before that of b
abbrev pub CodeBefore : SchemeRegistry → SchemeRegistry → Type 0
CodeBefore a b = code_cmp a.code b.code ≡ Less

codes_transitive : (a b c : SchemeRegistry) → CodeBefore a b → CodeBefore b c → CodeBefore a c
codes_transitive a b c p q =
    let low = code_below a.code b.code p in
    let high = code_below b.code c.code q in
    code_less a.code c.code (omega arith)

-- a code that comes before another isn't that one
code_other : (a b : Code) → code_cmp a b ≡ Less → a ≡ b → ⊥
code_other a b less e =
    let lt = code_below a b less in
    let same : code_rank a ≡ code_rank b = ap code_rank e in
    absurd (omega arith)

pub other_from_test : (a b : Code) → same_code a b ≡ false → a ≡ b → ⊥
other_from_test a b no_test e = true≢false (sym (subst (λ c. same_code a c ≡ true) e (same_code-refl a)) ∙ no_test)

-- two codes after a sort
less_or_same : (a b : Code) → is_lt (code_cmp b a) ≡ false → (code_cmp a b ≡ Less) ⊎ (a ≡ b)
less_or_same a b sorted = elim (cases_lt (code_rank a) (code_rank b)) [
  | inl lower ↦ inl (code_less a b lower)
  | inr level ↦
      let up = code_up a b sorted in
      let k = a.letters in
      let l = b.letters in
      inr (codes_alike a b (omega arith) (omega arith))
]

pub all_rise : (ms : List SchemeRegistry) (i : ℕ) → length ms ≤ i → AllAdjacentBelow CodeBefore ms i → Pairwise CodeBefore ms
all_rise ms i le rise = all_from_neighbours CodeBefore codes_transitive ms (λ k d lt. rise k d (omega arith))

-- members in byte order stand in the one order that there is
pub same_order : (ms ns : List SchemeRegistry) → Pairwise CodeBefore ms → Pairwise CodeBefore ns → ((m : SchemeRegistry) → Contains ms m → Contains ns m) → ((m : SchemeRegistry) → Contains ns m → Contains ms m) → ms ≡ ns
same_order = one_order CodeBefore codes_transitive (λ m less. code_other m.code m.code less refl)

pub codes_differ : (ms : List SchemeRegistry) → Pairwise CodeBefore ms → HasNoTwins (map (λ m. m.code) ms)
codes_differ [] p = tt
codes_differ (m ∷ ms) p = (each_code ms p.0, codes_differ ms p.1)
  where
    each_code : (ns : List SchemeRegistry) → AllByRecursion (CodeBefore m) ns → AllByRecursion (λ c. m.code ≢ c) (map (λ n. n.code) ns)
    each_code [] q = tt
    each_code (n ∷ ns) q = (code_other m.code n.code q.0, each_code ns q.1)

pub codes_rise : (ms : List SchemeRegistry) → AreSorted ms → HasNoTwins (map (λ m. m.code) ms) → Pairwise CodeBefore ms
codes_rise ms sorted apart = all_rise ms (length ms) (omega arith) (λ k d lt. elim (less_or_same (get_or ms k d).code (get_or ms (k + 1) d).code (sorted k d (omega arith) lt)) [
  | inl less ↦ less
  | inr same ↦
      let a = get_or-map (λ (m : SchemeRegistry). m.code) ms k d d.code (omega arith) in
      let b = get_or-map (λ (m : SchemeRegistry). m.code) ms (k + 1) d d.code lt in
      let within : k + 1 < length (map (λ (m : SchemeRegistry). m.code) ms) = omega (arith, length-map ms (λ (m : SchemeRegistry). m.code)) in
      absurd (pair_at (λ x y. x ≢ y) (map (λ (m : SchemeRegistry). m.code) ms) k (k + 1) d.code (omega arith) within apart (a ∙ same ∙ sym b))
])

module _ (ms : List SchemeRegistry) (i : ℕ) (a b : SchemeRegistry) (some : 1 ≤ i) (lt : i < length ms) (ais : a ≡ get_or ms (i - 1) a) (bis : b ≡ get_or ms i b) where
  pub not_risen : a.code ≡ b.code → Pairwise CodeBefore ms → ⊥
  not_risen same rise = code_other a.code b.code (pair_here CodeBefore ms i a b some lt ais bis rise) same

  pub codes_step : AreSorted ms → (a.code ≡ b.code → ⊥) → AllAdjacentBelow CodeBefore ms i → AllAdjacentBelow CodeBefore ms (i + 1)
  codes_step sorted other rise = neighbours_more CodeBefore ms i a b some lt ais bis (elim (less_or_same a.code b.code (sorted_here (λ (m : SchemeRegistry). m.code) code_cmp ms i a b some lt ais bis sorted)) [
    | inl less ↦ less
    | inr same ↦ absurd (other same)
  ]) rise

-- ---- blocks

pub all_apart : (old bs : List Block) (i : ℕ) → IsPermutation old bs → length bs ≤ i → AllAdjacentBelow EndsBefore bs i → AllApart old
all_apart old bs i s le rise =
    pairs_moved (λ a b. AreApart a.raw b.raw) (λ a b h u v w. h u w v) bs old (IsPermutation-sym old bs s)
    (pairwise_weaker EndsBefore (λ a b. AreApart a.raw b.raw) apart_behind bs (all_from_neighbours EndsBefore ends_transitive bs (λ k d lt. rise k d (omega arith))))

module _ (old bs : List Block) (i : ℕ) (a b : Block) (s : Serial) (moved : IsPermutation old bs) (some : 1 ≤ i) (lt : i < length bs) (ais : a ≡ get_or bs (i - 1) a) (bis : b ≡ get_or bs i b) (is : s ≡ first_unit b.raw) where
  pub not_apart : has_unit a.raw s ≡ true → AllApart old → ⊥
  not_apart has apart =
      shared a b (subst (λ t. has_unit a.raw t ≡ true) is has)
      (pair_here (λ c d. AreApart c.raw d.raw) bs i a b some lt ais bis (pairs_moved (λ c d. AreApart c.raw d.raw) (λ c d h u v w. h u w v) old bs moved apart))

  pub apart_step : IsSortedByKey (λ c. first_unit c.raw) unit_cmp bs → has_unit a.raw s ≡ false → AllAdjacentBelow EndsBefore bs i → AllAdjacentBelow EndsBefore bs (i + 1)
  apart_step sorted has rise = neighbours_more EndsBefore bs i a b some lt ais bis
      (behind a b (sorted_here (λ (c : Block). first_unit c.raw) unit_cmp bs i a b some lt ais bis sorted) (subst (λ t. has_unit a.raw t ≡ false) is has)) rise
