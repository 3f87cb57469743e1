-- The entries of an ordered map of spans as a list of intervals: their meaning, and that they are kept and canonical.
use Rattle.std.proofs.Common.{◌≡◌, inl, inr, ℕ, ◌+◌, ◌<◌, zero, suc, List, [], ◌∷◌, length, get_or, true, false, Option, Some, None, refl, sym, ap, ◌∙◌, subst, arith}
use Rattle.std.specs.declared.cmp.Ordering.TheVariants.{Less}
use Rattle.std.specs.BTreeMap.{BTreeMap, IsOrdered, get, keys}
use Rattle.std.proofs.lemmas.Bool.{cases_Bool, true≢false, cases_lt}
use Rattle.std.proofs.lemmas.List.{get_or-map, length-map}
use Rattle.std.proofs.lemmas.Map.Keys.{Less-from_sorted}
use Rattle.std.proofs.lemmas.Map.Views.{All-found, btree_map_get_iff}
use Rattle.units.specs.Canonical.{GoesOn, AreCanonical}
use Rattle.units.specs.Facts.{IsRange}
use Rattle.units.specs.Intervals.{has, label_at, AreKept, numbered}
use Rattle.units.specs.Keys.{unit_cmp}
use Rattle.units.specs.Spans.{interval_at, intervals_of, AreParted, Mean, IsSeam, labels_in}
use Rattle.units.specs.declared.block.Unit.{Unit as Serial}
use Rattle.units.specs.declared.interval.Interval.{Interval}
use Rattle.units.specs.declared.unit_map.Span.{Span}
use Rattle.units.proofs.UnitKeys.{exact_units, units_total}
use Rattle.units.proofs.UnitLines.{line_numbered_at, Before, in_true, in_true_from, before_from_less, less_from, not_less}

module _ {M : Type 0} where
  abbrev pub at : Serial × Span M → Interval M
  at e = interval_at e.0 e.1

  -- a unit is in one span at most
  pub one_span : (held : Serial → Option (Span M)) → AreParted held → (k l u : Serial) (s t : Span M) → held k ≡ Some s → held l ≡ Some t → has (interval_at k s) u ≡ true → has (interval_at l t) u ≡ true → k ≡ l
  one_span held parted k l u s t e f g h =
      let x = in_true k s u g in
      let y = in_true l t u h in
      elim (cases_lt l.number k.number) [
        | inl lt ↦ sym (parted.apart l k t s f e (in_true_from l t k (record { line = y.line ∙ sym x.line; low = omega arith; high = omega arith })))
        | inr ge ↦ parted.apart k l s t e f (in_true_from k s l (record { line = x.line ∙ sym y.line; low = ge; high = omega arith }))
      ]

  -- ---- labels by indices in the list

  pub labelled_at : (es : List (Serial × Span M)) (d : Serial × Span M) (u : Serial) (m : M) → label_at (intervals_of es) u ≡ Some m
      → (i : ℕ) × (i < length es) × (has (at (get_or es i d)) u ≡ true) × ((get_or es i d).1.label ≡ m)
  labelled_at [] d u m e = absurd (cc (e))
  labelled_at (x ∷ es) d u m e = elim (cases_Bool (has (at x) u)) [
    | inl yes' ↦ (zero, omega arith, yes', (let some : Some x.1.label ≡ Some m = rw yes' at e in cc (some)))
    | inr no' ↦ let rest = labelled_at es d u m (rw no' at e) in (suc rest.0, omega (arith, rest.1), rest.2, rest.3)
  ]

  pub all_labelled : (es : List (Serial × Span M)) (d : Serial × Span M) (u : Serial) (m : M) → ((i : ℕ) → i < length es → has (at (get_or es i d)) u ≡ true → (get_or es i d).1.label ≡ m)
      → (i : ℕ) → i < length es → has (at (get_or es i d)) u ≡ true → label_at (intervals_of es) u ≡ Some m
  all_labelled [] d u m all i lt h = absurd (omega arith)
  all_labelled (x ∷ es) d u m all i lt h = elim (cases_Bool (has (at x) u)) [
    | inl yes' ↦ rw yes' (ap Some (all zero (omega arith) yes'))
    | inr no' ↦ rw no' (later (λ j. all_labelled es d u m (λ k l. all (suc k) (omega arith)) j) i lt h no')
  ]
    where
      later : ((j : ℕ) → j < length es → has (at (get_or es j d)) u ≡ true → label_at (intervals_of es) u ≡ Some m) → (n : ℕ) → n < length (x ∷ es) → has (at (get_or (x ∷ es) n d)) u ≡ true → has (at x) u ≡ false → label_at (intervals_of es) u ≡ Some m
      later rest zero in' g no' = absurd (true≢false (sym g ∙ no'))
      later rest (suc j) in' g no' = rest j (omega arith) g

  -- ---- the map and its list

  module _ (m : BTreeMap Serial (Span M)) (ordered : IsOrdered unit_cmp m) where
    held_at : (i : ℕ) (d : Serial × Span M) → i < length m.entries → get unit_cmp m (get_or m.entries i d).0 ≡ Some (get_or m.entries i d).1
    held_at i d h = All-found units_total m ordered i d h

    pub means : AreParted (get unit_cmp m) → Mean (get unit_cmp m) (labels_in m)
    means parted = record {
      gives = λ k u s e h.
          let index = (btree_map_get_iff units_total exact_units m ordered k s).0 e in
          let d : Serial × Span M = (k, s) in
          all_labelled m.entries d u s.label (λ i lt g.
          let there = held_at i d lt in
          let same = one_span (get unit_cmp m) parted k (get_or m.entries i d).0 u s (get_or m.entries i d).1 e there h g in
          let both : Some s ≡ Some (get_or m.entries i d).1 = sym e ∙ ap (get unit_cmp m) same ∙ there in
          cc (both)) index.0 index.1 (subst (λ (x : Serial × Span M). has (at x) u ≡ true) (sym index.2) h);
      given = λ u label e.
          let d : Serial × Span M = (u, record { last = 0; label = label }) in
          let index = labelled_at m.entries d u label e in
          ((get_or m.entries index.0 d).0, (get_or m.entries index.0 d).1, held_at index.0 d index.1, index.2);
    }

    rises : (i j : ℕ) (d : Serial × Span M) → i < j → j < length m.entries → Before (get_or m.entries i d).0 (get_or m.entries j d).0
    rises i j d lt in' =
        let less = Less-from_sorted unit_cmp (keys m) i j d.0 ordered lt (simp length-map in') in
        before_from_less _ _ (subst (λ a. unit_cmp a (get_or m.entries j d).0 ≡ Less) (get_or-map (λ (e : Serial × Span M). e.0) m.entries i d d.0 (omega arith))
        (subst (λ b. unit_cmp (get_or (keys m) i d.0) b ≡ Less) (get_or-map (λ (e : Serial × Span M). e.0) m.entries j d d.0 in') less))

  -- ---- lists whose intervals share no unit

  abbrev InRange : List (Serial × Span M) → Type 0
  InRange es = (i : ℕ) (d : Serial × Span M) → i < length es → IsRange (get_or es i d).0.number (get_or es i d).1.last

  abbrev Once : List (Serial × Span M) → Type 0
  Once es = (i j : ℕ) (d : Serial × Span M) (u : Serial) → i < j → j < length es → has (at (get_or es i d)) u ≡ true → has (at (get_or es j d)) u ≡ true → ⊥

  kept_from : (es : List (Serial × Span M)) → InRange es → Once es → AreKept (intervals_of es)
  kept_from [] ranges once = tt
  kept_from (x ∷ es) ranges once = (
    ranges zero x (omega arith),
    λ u here. none u here (label_at (intervals_of es) u) refl,
    kept_from es (λ i d lt. ranges (suc i) d (omega arith)) (λ i j d u lt in'. once (suc i) (suc j) d u (omega arith) (omega arith)),
  )
    where
      none : (u : Serial) → has (at x) u ≡ true → (o : Option M) → label_at (intervals_of es) u ≡ o → o ≡ None
      none u here None e = refl
      none u here (Some m) e =
          let index = labelled_at es x u m e in
          absurd (once zero (suc index.0) x u (omega arith) (omega (arith, index.1)) here index.2)

  abbrev Steps : List (Serial × Span M) → Type 0
  Steps es = (i : ℕ) (d : Serial × Span M) → i + 1 < length es → (unit_cmp (numbered (at (get_or es i d)) (get_or es i d).1.last) (get_or es (i + 1) d).0 ≡ Less) × (GoesOn (at (get_or es i d)) (at (get_or es (i + 1) d)) → ⊥)

  canonical_from : (es : List (Serial × Span M)) → Steps es → AreCanonical (λ m. 0) (intervals_of es)
  canonical_from [] steps = tt
  canonical_from (x ∷ []) steps = tt
  canonical_from (x ∷ y ∷ es) steps =
      let here = steps zero x (omega arith) in
      (inr (refl, here.0), here.1, canonical_from (y ∷ es) (λ i d lt. next x y es d steps i lt))
    where
      next : (a b : Serial × Span M) (cs : List (Serial × Span M)) (d : Serial × Span M) → Steps (a ∷ b ∷ cs) → (i : ℕ) → i + 1 < length (b ∷ cs)
          → (unit_cmp (numbered (at (get_or (b ∷ cs) i d)) (get_or (b ∷ cs) i d).1.last) (get_or (b ∷ cs) (i + 1) d).0 ≡ Less) × (GoesOn (at (get_or (b ∷ cs) i d)) (at (get_or (b ∷ cs) (i + 1) d)) → ⊥)
      next a b cs d f i lt =
          let e : suc i + 1 ≡ suc (i + 1) = omega arith in
          subst (λ n. (unit_cmp (numbered (at (get_or (b ∷ cs) i d)) (get_or (b ∷ cs) i d).1.last) (get_or (a ∷ b ∷ cs) n d).0 ≡ Less) × (GoesOn (at (get_or (b ∷ cs) i d)) (at (get_or (a ∷ b ∷ cs) n d)) → ⊥)) e (f (suc i) d (omega arith))

  module _ (m : BTreeMap Serial (Span M)) (ordered : IsOrdered unit_cmp m) (parted : AreParted (get unit_cmp m)) where
    other : (i j : ℕ) (d : Serial × Span M) → i < j → j < length m.entries → (get_or m.entries i d).0 ≡ (get_or m.entries j d).0 → ⊥
    other i j d lt in' same = not_less _ (subst (λ k. Before (get_or m.entries i d).0 k) (sym same) (rises m ordered i j d lt in'))

    pub kept : AreKept (intervals_of m.entries)
    kept = kept_from m.entries
        (λ i d lt. parted.ranges (get_or m.entries i d).0 (get_or m.entries i d).1 (held_at m ordered i d lt))
        (λ i j d u lt in' g h. other i j d lt in' (one_span (get unit_cmp m) parted (get_or m.entries i d).0 (get_or m.entries j d).0 u (get_or m.entries i d).1 (get_or m.entries j d).1 (held_at m ordered i d (omega arith)) (held_at m ordered j d in') g h))

    ends_before : (k l : Serial) (s t : Span M) → get unit_cmp m k ≡ Some s → get unit_cmp m l ≡ Some t → Before k l → Before (numbered (interval_at k s) s.last) l
    ends_before k l s t e f before =
        let same = line_numbered_at k s.last in
        record {
          line = let b = before.line in omega arith;
          number = λ back.
              let far = before.number (omega arith) in
              let b = before.line in
              elim (cases_lt s.last l.number) [
                | inl lt ↦ lt
                | inr ge ↦ absurd (not_less k (subst (λ q. Before k q) (sym (parted.apart k l s t e f (in_true_from k s l (record { line = omega arith; low = omega arith; high = ge })))) before))
              ];
        }

    pub canonical : ((u : Serial) → IsSeam (get unit_cmp m) u → ⊥) → AreCanonical (λ m. 0) (intervals_of m.entries)
    canonical joined = canonical_from m.entries (λ i d lt.
        let e = held_at m ordered i d (omega arith) in
        let f = held_at m ordered (i + 1) d lt in
        let k = get_or m.entries i d in
        let l = get_or m.entries (i + 1) d in (
          less_from (numbered (at k) k.1.last) l.0 (ends_before k.0 l.0 k.1 l.1 e f (rises m ordered i (i + 1) d (omega arith) lt)),
          λ goes. joined l.0 (record { before = k.0; left = k.1; right = l.1; first = e; second = f; goes_on = goes }),
        ))
