-- Whole maps of spans: one meaning, other labels everywhere, and the labels of a map after a change.
use Rattle.std.proofs.Common.{◌≡◌, ◌⊎◌, inl, inr, ◌+◌, List, [], ◌∷◌, Bool, true, false, true≢false, not, cond, Option, Some, None, refl, sym, ap, ◌∙◌, subst, arith}
use Rattle.std.specs.BTreeMap.{BTreeMap, IsOrdered, get, is_at}
use Rattle.std.specs.List.Sorted.{IsStrictlySortedBy}
use Rattle.std.specs.Map.{keys_of, lookup}
use Rattle.std.specs.FinMap as map
use Rattle.std.specs.Option.{option_map, option_and_then, option_or}
use Rattle.std.specs.List.{AllByRecursion}
use Rattle.std.specs.Ordering.{is_eq}
use Rattle.std.specs.declared.cmp.Ordering.TheVariants.{Less}
use Rattle.std.proofs.lemmas.Map.Keys.{sorted_head}
use Rattle.units.specs.Intervals.{has, labels_of, labels_that}
use Rattle.std.proofs.lemmas.Bool.{cases_Bool, false_from_ne_true, or_left, or_right}
use Rattle.units.specs.Facts.{IsRange}
use Rattle.units.specs.Keys.{unit_cmp, first_unit}
use Rattle.units.specs.Unit.{has_unit, covers}
use Rattle.units.specs.SpanSteps.{AreSetIn}
use Rattle.units.specs.Spans.{interval_at, intervals_of, labels_in, AreParted, AreReshaped, Mean, IsSeam, IsSpanMap, Puts, end_unit, reaches, reached, relabelled, respanned}
use Rattle.units.specs.declared.block.Block.{Block}
use Rattle.units.specs.declared.block.Unit.{Unit as Serial}
use Rattle.units.specs.declared.unit_map.Span.{Span}
use Rattle.units.proofs.Labels.{get-labels_of}
use Rattle.units.proofs.SpanLists.{means}
use Rattle.units.proofs.SpanPuts.{Held, put_here, put_other, one_unit, none_held, some_same}
use Rattle.units.proofs.SpanCuts.{goes_line}
use Rattle.units.proofs.UnitLines.{line_of, line_numbered, line_numbered_at, in_true_from, block_true, between_true_from, at_self, at_false_from}

-- ---- units of blocks, and the units that blocks reach

covers_reached : (blocks : List Block) (q : Serial) → covers blocks q ≡ true → reached blocks q ≡ true
covers_reached [] q e = absurd (true≢false (sym e))
covers_reached (b ∷ blocks) q e = elim (cases_Bool (has_unit b.raw q)) [
  | inl in' ↦
      let i = block_true b.raw q in' in
      let l = i.line in
      let s = line_numbered b.raw (b.raw.last + 1) in
      or_left (reaches b.raw q) (reached blocks q) (between_true_from (first_unit b.raw) (end_unit b.raw) q (record { line = omega arith; number = λ x. i.low }) (record { line = omega arith; number = λ x. (let h = i.high in omega arith) }))
  | inr out ↦ or_right (reaches b.raw q) (reached blocks q) (covers_reached blocks q (rw out at e))
]

behind_reached : (blocks : List Block) (w q : Serial) → line_of w ≡ line_of q → w.number + 1 ≡ q.number → covers blocks w ≡ true → reached blocks q ≡ true
behind_reached [] w q l n e = absurd (true≢false (sym e))
behind_reached (b ∷ blocks) w q l n e = elim (cases_Bool (has_unit b.raw w)) [
  | inl in' ↦
      let i = block_true b.raw w in' in
      let k = i.line in
      let s = line_numbered b.raw (b.raw.last + 1) in
      or_left (reaches b.raw q) (reached blocks q) (between_true_from (first_unit b.raw) (end_unit b.raw) q (record { line = omega arith; number = λ x. (let h = i.low in omega arith) }) (record { line = omega arith; number = λ x. (let h = i.high in omega arith) }))
  | inr out ↦ or_right (reaches b.raw q) (reached blocks q) (behind_reached blocks w q l n (rw out at e))
]

module _ {M : Type 0} where
  -- the labels are determined by the spans
  pub one_meaning : (held : Held M) (f h : Serial → Option M) → Mean held f → Mean held h → (u : Serial) → f u ≡ h u
  one_meaning held f h mean other u = by_cases (f u) refl (h u) refl
    where
      by_cases : (o : Option M) → f u ≡ o → (p : Option M) → h u ≡ p → f u ≡ h u
      by_cases None e None g = e ∙ sym g
      by_cases (Some m) e p g = let x = mean.given u m e in mean.gives x.0 u x.1 x.2 x.3 ∙ sym (other.gives x.0 u x.1 x.2 x.3)
      by_cases None e (Some m) g = let x = other.given u m g in mean.gives x.0 u x.1 x.2 x.3 ∙ sym (other.gives x.0 u x.1 x.2 x.3)

  -- the label that the map gives a unit, where the spans mean labels
  pub told_by : (m : BTreeMap Serial (Span M)) → AreParted (get unit_cmp m) → IsOrdered unit_cmp m → (f : Serial → Option M) → Mean (get unit_cmp m) f → (u : Serial) → map.get (labels_of (intervals_of m.entries)) u ≡ f u
  told_by m parted ordered f mean u = get-labels_of (intervals_of m.entries) u ∙ one_meaning (get unit_cmp m) (labels_in m) f (means m ordered parted) mean u

  -- a map with the same entries is as whole
  pub whole_same : (m n : BTreeMap Serial (Span M)) → m.entries ≡ n.entries → IsSpanMap n → IsSpanMap m
  whole_same m n e whole = record {
    ordered = subst (λ (es : List (Serial × Span M)). IsStrictlySortedBy unit_cmp (keys_of es)) (sym e) whole.ordered;
    parted = subst (λ (es : List (Serial × Span M)). AreParted (λ k. lookup (is_at (unit_cmp k)) es)) (sym e) whole.parted;
    joined = subst (λ (es : List (Serial × Span M)). (u : Serial) → IsSeam (λ k. lookup (is_at (unit_cmp k)) es) u → ⊥) (sym e) whole.joined;
  }

  -- ---- other labels everywhere

  respanned_some : (after : M → Option M) (s t : Span M) → relabelled s (after s.label) ≡ Some t → (s.last ≡ t.last) × (after s.label ≡ Some t.label)
  respanned_some after s t e = by_label (after s.label) refl (e)
    where
      by_label : (r : Option M) → after s.label ≡ r → relabelled s (after s.label) ≡ Some t → (s.last ≡ t.last) × (after s.label ≡ Some t.label)
      by_label None f g = absurd (none_held t (ap (relabelled s) (sym f) ∙ g))
      by_label (Some m) f g =
          let is : record { last = s.last; label = m } ≡ t = some_same (record { last = s.last; label = m }) t (ap (relabelled s) (sym f) ∙ g) in
          (ap (λ (x : Span M). x.last) is, f ∙ ap (λ (x : Span M). Some x.label) is)

  pub respanned_mean : (after : M → Option M) (old new : Held M) → ((q : Serial) → new q ≡ respanned after (old q)) → (f : Serial → Option M) → Mean old f → Mean new (λ u. option_and_then after (f u))
  respanned_mean after old new changed f mean = record {
    gives = λ k u t e h. by_span k u t e h (old k) refl;
    given = λ u m e. by_unit u m (f u) refl e;
  }
    where
      by_span : (k u : Serial) (t : Span M) → new k ≡ Some t → has (interval_at k t) u ≡ true → (o : Option (Span M)) → old k ≡ o → option_and_then after (f u) ≡ Some t.label
      by_span k u t e h None g = absurd (none_held t (ap (respanned after) (sym g) ∙ sym (changed k) ∙ e))
      by_span k u t e h (Some s) g =
          let both = respanned_some after s t (ap (respanned after) (sym g) ∙ sym (changed k) ∙ e) in
          ap (option_and_then after) (mean.gives k u s g (subst (λ n. has (record { origin = k.origin; period = k.period; first = k.number; last = n; label = s.label }) u ≡ true) (sym both.0) h)) ∙ both.1

      by_unit : (u : Serial) (m : M) (o : Option M) → f u ≡ o → option_and_then after (f u) ≡ Some m → (k : Serial) × (t : Span M) × (new k ≡ Some t) × (has (interval_at k t) u ≡ true)
      by_unit u m None e g = absurd (let clash : None ≡ Some m = ap (option_and_then after) (sym e) ∙ g in cc (clash))
      by_unit u m (Some n) e g =
          let x = mean.given u n e in
          let label : f u ≡ Some x.1.label = mean.gives x.0 u x.1 x.2 x.3 in
          let becomes : after x.1.label ≡ Some m = ap (option_and_then after) (sym label) ∙ g in
          (x.0, record { last = x.1.last; label = m }, changed x.0 ∙ ap (respanned after) x.2 ∙ ap (relabelled x.1) becomes, x.3)

  pub seam_fewer : (old new : Held M) → ((q : Serial) (t : Span M) → new q ≡ Some t → old q ≡ Some t) → (q : Serial) → IsSeam new q → IsSeam old q
  seam_fewer old new fewer q seam = record { before = seam.before; left = seam.left; right = seam.right; first = fewer seam.before seam.left seam.first; second = fewer q seam.right seam.second; goes_on = seam.goes_on }

  pub mapped_labels : (after : M → M) (o : Option M) → option_and_then (λ m. Some (after m)) o ≡ option_map after o
  mapped_labels after None = refl
  mapped_labels after (Some m) = refl

  -- ---- after blocks were set and joined

  pub set_joined : (blocks : List Block) (old middle new : Held M) → ((q : Serial) → IsSeam old q → ⊥) → AreSetIn blocks old middle → ((q : Serial) → IsSeam new q → IsSeam middle q × (reached blocks q ≡ false)) → (q : Serial) → IsSeam new q → ⊥
  set_joined blocks old middle new none set joined q seam =
      let one = joined q seam in
      elim (set.seams q one.0) [
        | inl before ↦ none q before
        | inr near ↦ true≢false (sym near ∙ one.1)
      ]

  removed_one : (t : Bool) (m : M) → cond t None (Some m) ≡ cond (not t) (Some m) None
  removed_one true m = refl
  removed_one false m = refl

  pub removed_labels : (passes : M → Bool) (o : Option M) → option_and_then (λ m. cond (passes m) None (Some m)) o ≡ labels_that (λ m. not (passes m)) o
  removed_labels passes None = refl
  removed_labels passes (Some m) = removed_one (passes m) m

  pub removed_twice : (passes : M → Bool) (m : M) → option_and_then (λ n. cond (passes n) None (Some n)) (cond (passes m) None (Some m)) ≡ cond (passes m) None (Some m)
  removed_twice passes m = by_test (passes m) refl
    where
      by_test : (t : Bool) → passes m ≡ t → option_and_then (λ n. cond (passes n) None (Some n)) (cond (passes m) None (Some m)) ≡ cond (passes m) None (Some m)
      by_test true e = rw e refl
      by_test false e = rw e (ap (λ t. cond t None (Some m)) e)

  -- where labels outside the blocks stay, each span changes as its label does
  pub all_respanned : (after : M → Option M) (blocks : List Block) (m n : BTreeMap Serial (Span M)) → AreParted (get unit_cmp m) → IsOrdered unit_cmp m
      → ((q : Serial) → get unit_cmp n q ≡ cond (covers blocks q) (respanned after (get unit_cmp m q)) (get unit_cmp m q))
      → ((u : Serial) (x : M) → labels_in m u ≡ Some x → (after x ≡ Some x) ⊎ (covers blocks u ≡ true))
      → (q : Serial) → get unit_cmp n q ≡ respanned after (get unit_cmp m q)
  all_respanned after blocks m n parted ordered changed stays q = changed q ∙ by_cover (covers blocks q) refl (get unit_cmp m q) refl
    where
      by_cover : (t : Bool) → covers blocks q ≡ t → (o : Option (Span M)) → get unit_cmp m q ≡ o → cond t (respanned after o) o ≡ respanned after o
      by_cover true e o f = refl
      by_cover false e None f = refl
      by_cover false e (Some s) f =
          let r = parted.ranges q s f in
          let label = (means m ordered parted).gives q q s f (in_true_from q s q (record { line = refl; low = omega arith; high = r.1 })) in
          elim (stays q s.label label) [
            | inl same ↦ sym (ap (relabelled s) same)
            | inr covered ↦ absurd (true≢false (sym covered ∙ e))
          ]

  -- ---- spans that go on after labels were changed in blocks

  -- the last unit of a span
  abbrev pub last_of : Serial → Span M → Serial
  last_of k s = record { origin = k.origin; period = k.period; number = s.last }

  pub has_last : (k : Serial) (s : Span M) → IsRange k.number s.last → has (interval_at k s) (last_of k s) ≡ true
  has_last k s r = in_true_from k s (last_of k s) (record { line = sym (line_numbered_at k s.last); low = r.1; high = omega arith })

  pub relabel_seams : (blocks : List Block) (old middle : Held M) → AreReshaped old middle → ((q : Serial) → covers blocks q ≡ false → middle q ≡ old q)
      → ((k : Serial) (s : Span M) → old k ≡ Some s → covers blocks (last_of k s) ≡ false → middle k ≡ Some s)
      → (q : Serial) → IsSeam middle q → reached blocks q ≡ false → IsSeam old q
  relabel_seams blocks old middle reshaped outside kept q seam far =
      let k = seam.before in
      let here : covers blocks q ≡ false = false_from_ne_true _ (λ e. true≢false (sym (covers_reached blocks q e) ∙ far)) in
      let was = reshaped k seam.left seam.first in
      let next : seam.left.last + 1 ≡ q.number = seam.goes_on.next in
      let there : covers blocks (last_of k was.0) ≡ false = false_from_ne_true _ (λ e. true≢false (sym (behind_reached blocks (last_of k was.0) q (line_numbered_at k was.0.last ∙ goes_line k q seam.left seam.right seam.goes_on) (let x = was.2 in omega arith) e) ∙ far)) in
      let same : was.0 ≡ seam.left = some_same was.0 seam.left (sym (kept k was.0 was.1 there) ∙ seam.first) in
      record { before = k; left = seam.left; right = seam.right; first = was.1 ∙ ap Some same; second = sym (outside q here) ∙ seam.second; goes_on = seam.goes_on }

  -- ---- a map copied entry by entry

  none_at_head : (k : Serial) (es : List (Serial × Span M)) → AllByRecursion (λ y. unit_cmp k y ≡ Less) (keys_of es) → lookup (is_at (unit_cmp k)) es ≡ None
  none_at_head k [] all = refl
  none_at_head k (e ∷ es) all = rw (ap is_eq all.0) (none_at_head k es all.1)

  pub copied_more : (all : Held M) (rest : List (Serial × Span M)) (k : Serial) (s : Span M) (copy new : Held M) → IsStrictlySortedBy unit_cmp (keys_of ((k, s) ∷ rest)) → Puts k (Some s) copy new
      → ((q : Serial) → all q ≡ option_or (lookup (is_at (unit_cmp q)) ((k, s) ∷ rest)) (copy q)) → (q : Serial) → all q ≡ option_or (lookup (is_at (unit_cmp q)) rest) (new q)
  copied_more all rest k s copy new sorted puts so_far q = so_far q ∙ elim (one_unit k q) [
    | inl same ↦ subst (λ z. option_or (cond (is_at (unit_cmp z) k) (Some s) (lookup (is_at (unit_cmp z)) rest)) (copy z) ≡ option_or (lookup (is_at (unit_cmp z)) rest) (new z)) same
        (rw (at_self k, none_at_head k rest (sorted_head unit_cmp k (keys_of rest) sorted)) (sym (put_here k (Some s) copy new puts)))
    | inr other ↦ rw (at_false_from q k (λ e. other (sym e))) (ap (option_or (lookup (is_at (unit_cmp q)) rest)) (sym (put_other k (Some s) copy new puts q other)))
  ]
