-- The number of entries of maps that pass tests: if at each key one map's entry counts as much as those of two others
-- together, all its entries do.
use Rattle.std.proofs.Common.{◌≡◌, ℕ, ◌+◌, ◌<◌, List, [], ◌∷◌, ◌++◌, map, Bool, true, false, true≢false, is_some, ◌&&◌, not, cond, T, Option, Some, None, refl, sym, ap, ◌∙◌, subst, arith, inl, inr}
use Rattle.std.specs.declared.cmp.Ordering.{Ordering}
use Rattle.std.specs.Cmp.{IsTotalOrder, eq_by_cmp_equiv, tied_itself}
use Rattle.std.specs.FinMap.{FinMap, get, get-entries, entries, entries_sorted}
use Rattle.std.specs.FinMap.Entries.{find, is_sorted, below_all, where_key, is_sorted-where_key, find-where_key, is_some-find}
use Rattle.std.specs.List.{count_by, list_any}
use Rattle.std.specs.Ordering.{is_eq, is_lt, eq_by_cmp}
use Rattle.std.proofs.lemmas.Bool.{cases_Bool, or_parts, or_from, false_from_ne_true}
use Rattle.std.proofs.lemmas.List.Folds.{list_any-append}
use Rattle.std.proofs.lemmas.List.Sums.{sum_by-cons}
use Rattle.std.proofs.lemmas.Map.Lookups.{CmpEqualImpliesEq}
use Rattle.units.proofs.CountingUnits.{less}
use Rattle.units.proofs.UnitLines.{eq_true}

both : (a b : Bool) → T (a && b) → T a × T b
both true b h = (tt, h)
both false b h = absurd h

-- the count of an entry, if there is one
abbrev pub tally : {X : Type 0} → (X → Bool) → Option X → ℕ
tally passes None = 0
tally passes (Some x) = cond (passes x) 1 0

abbrev one_if : Bool → ℕ
one_if t = cond t 1 0

abbrev pub count_of : {K X : Type 0} → (X → Bool) → List (K × X) → ℕ
count_of passes es = count_by (λ e. passes e.1) es

module _ {K : Type 0} (R : K → K → Ordering) (o : IsTotalOrder R) (same : CmpEqualImpliesEq R) where
  module _ {X : Type 0} where
    find_below : (k : K) (es : List (K × X)) → T (below_all R k es) → find R k es ≡ None
    find_below k [] h = refl
    find_below k (e ∷ es) h = let two = both (is_lt (R k e.0)) (below_all R k es) h in ap (λ r. cond (is_eq r) (Some e.1) (find R k es)) (less (R k e.0) two.0) ∙ find_below k es two.1

    abbrev rest : K → List (K × X) → List (K × X)
    rest k es = where_key R (λ x. not (eq_by_cmp R k x)) es

    find-rest : (k q : K) (es : List (K × X)) → find R q (rest k es) ≡ cond (eq_by_cmp R k q) None (find R q es)
    find-rest k q es = find-where_key R (λ x. not (eq_by_cmp R k x)) q (λ x t. ap (λ y. not (eq_by_cmp R k y)) (sym (same q x t))) es ∙ turned (eq_by_cmp R k q) (find R q es)
      where
        turned : (b : Bool) (x : Option X) → cond (not b) x None ≡ cond b None x
        turned true x = refl
        turned false x = refl

    -- an entry and the others
    count_rest : (p : X → Bool) (k : K) (es : List (K × X)) → T (is_sorted R es) → tally p (find R k es) + count_of p (rest k es) ≡ count_of p es
    count_rest p k [] h = refl
    count_rest p k (e ∷ es) h =
        let two = both (below_all R e.0 es) (is_sorted R es) h in
        let left = rest k es in
        let later = count_rest p k es two.1 in
        let all = sum_by-cons (λ (x : K × X). cond (p x.1) 1 0) e es in
        let kept = sum_by-cons (λ (x : K × X). cond (p x.1) 1 0) e left in
        elim (eq_by_cmp R k e.0) as (λ t. eq_by_cmp R k e.0 ≡ t → tally p (cond t (Some e.1) (find R k es)) + count_of p (cond (not t) (e ∷ left) left) ≡ count_of p (e ∷ es)) [
          | true ↦ λ t.
              let none : find R k es ≡ None = subst (λ x. find R x es ≡ None) (sym (same k e.0 (eq_true _ t))) (find_below e.0 es two.0) in
              let nothing : tally p (find R k es) ≡ 0 = ap (tally p) none in
              omega (arith, later, all, nothing)
          | false ↦ λ t. omega (arith, later, all, kept)
        ] refl

    -- an entry that passes counts
    pub counted_some : (p : X → Bool) (k : K) (x : X) (es : List (K × X)) → T (is_sorted R es) → find R k es ≡ Some x → p x ≡ true → 0 < count_of p es
    counted_some p k x es h is passes =
        let split = count_rest p k es h in
        let one = ap (tally p) is ∙ ap one_if passes in
        omega (arith, split, one)

    -- where some count, one passes
    pub some_counted : (p : X → Bool) (es : List (K × X)) → T (is_sorted R es) → 0 < count_of p es → (k : K) × (x : X) × (find R k es ≡ Some x) × (p x ≡ true)
    some_counted p [] h lt = absurd (omega arith)
    some_counted p (e ∷ es) h lt =
        let two = both (below_all R e.0 es) (is_sorted R es) h in
        let all = sum_by-cons (λ (x : K × X). cond (p x.1) 1 0) e es in
        elim (cases_Bool (p e.1)) [
          | inl yes' ↦ (e.0, e.1, ap (λ r. cond (is_eq r) (Some e.1) (find R e.0 es)) (tied_itself o e.0), yes')
          | inr no' ↦
              let skipped = ap one_if no' in
              let later : 0 < count_of p es = omega (arith, lt, all, skipped) in
              let w = some_counted p es two.1 later in
              let apart : eq_by_cmp R w.0 e.0 ≡ false = false_from_ne_true (eq_by_cmp R w.0 e.0) (λ t.
              let clash : None ≡ Some w.1 = sym (find_below e.0 es two.0) ∙ ap (λ x. find R x es) (sym (same w.0 e.0 (eq_true _ t))) ∙ w.2 in
              cc (clash)) in
              (w.0, w.1, ap (λ t. cond t (Some e.1) (find R w.0 es)) apart ∙ w.2, w.3)
        ]

    no_entries : (es : List (K × X)) → ((k : K) → find R k es ≡ None) → es ≡ []
    no_entries [] h = refl
    no_entries (e ∷ es) h = let found : Some e.1 ≡ None = ap (λ r. cond (is_eq r) (Some e.1) (find R e.0 es)) (sym (tied_itself o e.0)) ∙ h e.0 in absurd (cc (found))

    -- the keys have all keys of the entries
    abbrev Covered : List K → List (K × X) → Type 0
    Covered ks es = (k : K) → list_any (eq_by_cmp R k) ks ≡ false → find R k es ≡ None

    covered_rest : (k : K) (ks : List K) (es : List (K × X)) → Covered (k ∷ ks) es → Covered ks (rest k es)
    covered_rest k ks es all q none = find-rest k q es ∙ (elim (cases_Bool (eq_by_cmp R k q)) [
      | inl yes' ↦ rw yes' refl
      | inr no' ↦ rw no' (all q (or_from (eq_by_cmp R q k) (list_any (eq_by_cmp R q) ks) ((eq_by_cmp_equiv o).symm q k ∙ no') none))
    ])

  module _ {X Y Z : Type 0} (p : X → Bool) (q : Y → Bool) (r : Z → Bool) where
    -- one counts as the two others
    abbrev Adds : Option X → Option Y → Option Z → Type 0
    Adds x y z = tally p x ≡ tally q y + tally r z

    adds_rest : (t : Bool) (x : Option X) (y : Option Y) (z : Option Z) → Adds x y z → Adds (cond t None x) (cond t None y) (cond t None z)
    adds_rest true x y z h = refl
    adds_rest false x y z h = h

    counts : (ks : List K) (es : List (K × X)) (fs : List (K × Y)) (gs : List (K × Z)) → T (is_sorted R es) → T (is_sorted R fs) → T (is_sorted R gs) → Covered ks es → Covered ks fs → Covered ks gs
        → ((k : K) → Adds (find R k es) (find R k fs) (find R k gs)) → count_of p es ≡ count_of q fs + count_of r gs
    counts [] es fs gs s t u a b c h =
        rw (no_entries es (λ k. a k refl), no_entries fs (λ k. b k refl), no_entries gs (λ k. c k refl)) refl
    counts (k ∷ ks) es fs gs s t u a b c h =
        let n = λ (x : K). not (eq_by_cmp R k x) in
        let later = counts ks (rest k es) (rest k fs) (rest k gs) (is_sorted-where_key R n es s) (is_sorted-where_key R n fs t) (is_sorted-where_key R n gs u) (covered_rest k ks es a) (covered_rest k ks fs b) (covered_rest k ks gs c)
        (λ x. rw (find-rest k x es, find-rest k x fs, find-rest k x gs) (adds_rest (eq_by_cmp R k x) (find R x es) (find R x fs) (find R x gs) (h x))) in
        let here = h k in
        omega (arith, later, here, count_rest p k es s, count_rest q k fs t, count_rest r k gs u)

  abbrev keys : {X : Type 0} → List (K × X) → List K
  keys es = map (λ e. e.0) es

  none_of : {X : Type 0} (o' : Option X) (b : Bool) → is_some o' ≡ b → b ≡ false → o' ≡ None
  none_of None b e f = refl
  none_of (Some x) b e f = absurd (true≢false (e ∙ f))

  missing : {X : Type 0} (k : K) (es : List (K × X)) → list_any (eq_by_cmp R k) (keys es) ≡ false → find R k es ≡ None
  missing k es h = none_of (find R k es) (list_any (eq_by_cmp R k) (keys es)) (is_some-find R k es) h

  -- if at each key one map's entry counts as much as those of two others together, all its entries do
  pub counts_add : {X Y Z : Type 0} (p : X → Bool) (q : Y → Bool) (r : Z → Bool) (m : FinMap R X) (n : FinMap R Y) (l : FinMap R Z) → ((k : K) → tally p (get m k) ≡ tally q (get n k) + tally r (get l k))
      → count_of p (entries m) ≡ count_of q (entries n) + count_of r (entries l)
  counts_add p q r m n l h =
      let es = entries m in
      let fs = entries n in
      let gs = entries l in
      let split = λ (k : K) (e : list_any (eq_by_cmp R k) (keys es ++ (keys fs ++ keys gs)) ≡ false). or_parts (list_any (eq_by_cmp R k) (keys es)) (list_any (eq_by_cmp R k) (keys fs ++ keys gs)) (sym (list_any-append (eq_by_cmp R k) (keys es) (keys fs ++ keys gs)) ∙ e) in
      let later = λ (k : K) (e : list_any (eq_by_cmp R k) (keys es ++ (keys fs ++ keys gs)) ≡ false). or_parts (list_any (eq_by_cmp R k) (keys fs)) (list_any (eq_by_cmp R k) (keys gs)) (sym (list_any-append (eq_by_cmp R k) (keys fs) (keys gs)) ∙ (split k e).1) in
      counts p q r (keys es ++ (keys fs ++ keys gs)) es fs gs (entries_sorted m) (entries_sorted n) (entries_sorted l)
      (λ k e. missing k es (split k e).0) (λ k e. missing k fs (later k e).0) (λ k e. missing k gs (later k e).1)
      (λ k. rw (sym (get-entries m k), sym (get-entries n k), sym (get-entries l k)) (h k))
