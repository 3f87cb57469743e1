-- A span cut in two, and one put in: the meaning of the spans, where they are cut, and which go on where others end.
use Rattle.std.proofs.Common.{◌≡◌, ◌⊎◌, inl, inr, true, false, cond, Option, Some, None, IsSome, refl, sym, ap, ◌∙◌, subst, arith}
use Rattle.std.specs.BTreeMap.{is_at}
use Rattle.std.specs.Option.{option_or}
use Rattle.std.proofs.lemmas.Bool.{cases_Bool, true≢false, false_from_ne_true}
use Rattle.units.specs.Canonical.{GoesOn}
use Rattle.units.specs.Facts.{IsRange}
use Rattle.units.specs.Intervals.{has}
use Rattle.units.specs.Keys.{unit_cmp}
use Rattle.units.specs.SpanSteps.{IsBegun}
use Rattle.units.specs.Spans.{interval_at, AreParted, Mean, IsSeam, Puts, begun, after_unit}
use Rattle.units.specs.Unit.{period_index}
use Rattle.units.specs.declared.block.Unit.{Unit as Serial}
use Rattle.units.specs.declared.unit_map.Span.{Span}
use Rattle.units.proofs.SpanLists.{one_span}
use Rattle.units.proofs.SpanPuts.{Held, put_here, put_other, one_unit, none_held, not_some, some_same, is_some_from, each_put}
use Rattle.units.proofs.UnitLines.{line_of, line_after, in_true, in_true_from, in_false_from, UpTo, same_unit, one_line, at_self, at_false_from, at_true}

module _ {M : Type 0} where
  -- ---- what goes on

  pub goes_line : (k l : Serial) (s t : Span M) → GoesOn (interval_at k s) (interval_at l t) → line_of k ≡ line_of l
  goes_line k l s t g = one_line k l (ap (λ c. c.first) g.origin) (ap (λ c. c.second) g.origin) (ap period_index g.period)

  pub mean_same : (held : Held M) (f g : Serial → Option M) → ((u : Serial) → g u ≡ f u) → Mean held f → Mean held g
  mean_same held f g same mean = record {
    gives = λ k u s e h. same u ∙ mean.gives k u s e h;
    given = λ u m e. mean.given u m (sym (same u) ∙ e);
  }

  -- a unit that is in no span has no label
  pub unlabelled : (held : Held M) (f : Serial → Option M) (v : Serial) → Mean held f → ((k : Serial) (s : Span M) → held k ≡ Some s → has (interval_at k s) v ≡ false) → f v ≡ None
  unlabelled held f v mean none = by_cases (f v) refl
    where
      by_cases : (o : Option M) → f v ≡ o → o ≡ None
      by_cases None e = refl
      by_cases (Some m) e = let g = mean.given v m e in absurd (true≢false (sym g.3 ∙ none g.0 g.1 g.2))

  pub begun_there : (v : Serial) (given : Option M) (f : Serial → Option M) (m : M) → f v ≡ Some m → (u : Serial) → begun v given f u ≡ f u
  begun_there v given f m e u = elim (cases_Bool (is_at (unit_cmp v) u)) [
    | inl yes' ↦ let here : f u ≡ Some m = ap f (sym (at_true v u yes')) ∙ e in rw (yes', here) refl
    | inr no' ↦ rw no' refl
  ]

  or_none : (o : Option M) → option_or o None ≡ o
  or_none None = refl
  or_none (Some m) = refl

  begun_none : (v : Serial) (f : Serial → Option M) (u : Serial) → begun v None f u ≡ f u
  begun_none v f u = elim (cases_Bool (is_at (unit_cmp v) u)) [
    | inl yes' ↦ rw yes' (or_none (f u))
    | inr no' ↦ rw no' refl
  ]

  -- ---- nothing to be done

  pub begun_at_key : (v : Serial) (given : Option M) (s : Span M) (held : Held M) → AreParted held → held v ≡ Some s → has (interval_at v s) v ≡ true → IsBegun v given held held
  begun_at_key v given s held parted e h = record {
    parted = parted;
    means = λ f mean. mean_same held f (begun v given f) (begun_there v given f s.label (mean.gives v v s e h)) mean;
    cut = λ k t g c. one_span held parted k v v t s g e c h;
    cuts = λ q c. c;
    key = λ some. subst (λ (o : Option (Span M)). IsSome o) (sym e) refl;
    keys = λ q some. some;
    seams = λ q seam. inl seam;
  }

  pub begun_nowhere : (v : Serial) (held : Held M) → AreParted held → ((k : Serial) (s : Span M) → held k ≡ Some s → has (interval_at k s) v ≡ false) → IsBegun v None held held
  begun_nowhere v held parted none = record {
    parted = parted;
    means = λ f mean. mean_same held f (begun v None f) (begun_none v f) mean;
    cut = λ k t g c. absurd (true≢false (sym c ∙ none k t g));
    cuts = λ q c. c;
    key = λ some. absurd (true≢false (sym some));
    keys = λ q some. some;
    seams = λ q seam. inl seam;
  }

  -- ---- a unit put in

  abbrev pub alone : Serial → M → Span M
  alone v m = record { last = v.number; label = m }

  in_alone : (v : Serial) (m : M) (u : Serial) → has (interval_at v (alone v m)) u ≡ true → v ≡ u
  in_alone v m u h = let i = in_true v (alone v m) u h in same_unit v u i.line (omega arith)

  pub begun_put : (v : Serial) (m : M) (old new : Held M) → AreParted old → IsRange v.number v.number → old v ≡ None
      → ((k : Serial) (s : Span M) → old k ≡ Some s → has (interval_at k s) v ≡ false) → Puts v (Some (alone v m)) old new → IsBegun v (Some m) old new
  begun_put v m old new parted range absent none puts =
      let own : has (interval_at v (alone v m)) v ≡ true = in_true_from v (alone v m) v (record { line = refl; low = omega arith; high = omega arith }) in
      let mine = put_here v (Some (alone v m)) old new puts in
      let theirs = λ (k : Serial) (s : Span M) (e : old k ≡ Some s). put_other v (Some (alone v m)) old new puts k (λ same. none_held s (sym absent ∙ ap old same ∙ e)) ∙ e in
      let outside = λ (k : Serial) (s : Span M) (e : old k ≡ Some s) (h : has (interval_at k s) v ≡ true). true≢false (sym h ∙ none k s e) in
      record {
        parted = record {
          ranges = each_put (λ k s. IsRange k.number s.last) v (alone v m) old new puts range (λ k s other e. parted.ranges k s e);
          apart = λ k l s t e f h.
              each_put (λ x y. has (interval_at x y) l ≡ true → x ≡ l) v (alone v m) old new puts
              (λ g. in_alone v m l g)
              (λ x y other i g. each_put (λ z w. has (interval_at x y) z ≡ true → x ≡ z) v (alone v m) old new puts
              (λ j. absurd (outside x y i j))
              (λ z w other' j c. parted.apart x z y w i j c) l t f g) k s e h;
        };
        means = λ f mean.
            let bare = unlabelled old f v mean none in
            let here : begun v (Some m) f v ≡ Some m = rw (at_self v, bare) refl in
            let there = λ (u : Serial) (other : v ≡ u → ⊥). ap (λ t. cond t (option_or (f u) (Some m)) (f u)) (at_false_from v u other) in
            record {
              gives = λ k u s e h.
                  each_put (λ x y. has (interval_at x y) u ≡ true → begun v (Some m) f u ≡ Some y.label) v (alone v m) old new puts
                  (λ g. ap (begun v (Some m) f) (sym (in_alone v m u g)) ∙ here)
                  (λ x y other i g. there u (λ same. outside x y i (ap (has (interval_at x y)) same ∙ g)) ∙ mean.gives x u y i g) k s e h;
              given = λ u n e. elim (one_unit v u) [
                | inl same ↦ (v, alone v m, mine, ap (has (interval_at v (alone v m))) (sym same) ∙ own)
                | inr other ↦ let g = mean.given u n (sym (there u other) ∙ e) in (g.0, g.1, theirs g.0 g.1 g.2, g.3)
              ];
            };
        cut = each_put (λ k s. has (interval_at k s) v ≡ true → k ≡ v) v (alone v m) old new puts (λ h. refl) (λ k s other e h. absurd (outside k s e h));
        cuts = λ q c. each_put (λ k s. has (interval_at k s) q ≡ true → k ≡ q) v (alone v m) old new puts (λ h. in_alone v m q h) (λ k s other e h. c k s e h);
        key = λ some. subst (λ (o : Option (Span M)). IsSome o) (sym mine) refl;
        keys = λ q some. kept q (old q) refl some;
        seams = λ q seam.
            each_put (λ w r. (b : Serial) (l : Span M) → new b ≡ Some l → GoesOn (interval_at b l) (interval_at w r) → IsSeam old w ⊎ ((w ≡ v) ⊎ (IsSome (Some m) × (w ≡ after_unit v)))) v (alone v m) old new puts
            (λ b l e g. inr (inl refl))
            (λ w r other i. each_put (λ b l. GoesOn (interval_at b l) (interval_at w r) → IsSeam old w ⊎ ((w ≡ v) ⊎ (IsSome (Some m) × (w ≡ after_unit v)))) v (alone v m) old new puts
            (λ g. inr (inr (refl, sym (same_unit (after_unit v) w (line_after v ∙ goes_line v w (alone v m) r g) g.next))))
            (λ b l other' j g. inl (record { before = b; left = l; right = r; first = j; second = i; goes_on = g })))
            q seam.right seam.second seam.before seam.left seam.first seam.goes_on;
      }
    where
      kept : (q : Serial) (o : Option (Span M)) → old q ≡ o → IsSome (old q) → IsSome (new q)
      kept q None e some = absurd (not_some (old q) e some)
      kept q (Some s) e some = subst (λ (x : Option (Span M)). IsSome x) (sym (put_other v (Some (alone v m)) old new puts q (λ same. none_held s (sym absent ∙ ap old same ∙ e)) ∙ e)) refl

  -- ---- the span that has a unit begins last before it

  pub floor_only : (held : Held M) → AreParted held → (at v : Serial) (span : Span M) → held at ≡ Some span → UpTo at v
      → ((q : Serial) → UpTo q v → IsSome (held q) → UpTo q at)
      → (q : Serial) (t : Span M) → held q ≡ Some t → has (interval_at q t) v ≡ true → q ≡ at
  floor_only held parted at v span e up last q t f h =
      let i = in_true q t v h in
      let low = last q (record { line = (let l = i.line in omega arith); number = λ x. i.low }) (is_some_from (held q) t f) in
      let a = up.line in
      let b = low.line in
      let l = i.line in
      let m = up.number (omega arith) in
      let n = low.number (omega arith) in
      parted.apart q at t span f e (in_true_from q t at (record { line = omega arith; low = n; high = (let x = i.high in omega arith) }))

  pub floor_none : (held : Held M) (v : Serial) → ((q : Serial) → UpTo q v → held q ≡ None) → (q : Serial) (t : Span M) → held q ≡ Some t → has (interval_at q t) v ≡ false
  floor_none held v none q t e = in_false_from q t v (λ i. none_held t (sym (none q (record { line = (let l = i.line in omega arith); number = λ x. i.low })) ∙ e))

  -- where the span that begins last before the unit doesn't have it, none has it
  pub floor_lacks : (held : Held M) → AreParted held → (at v : Serial) (span : Span M) → held at ≡ Some span → UpTo at v
      → ((q : Serial) → UpTo q v → IsSome (held q) → UpTo q at) → has (interval_at at span) v ≡ false
      → (q : Serial) (t : Span M) → held q ≡ Some t → has (interval_at q t) v ≡ false
  floor_lacks held parted at v span e up last lacks q t f = false_from_ne_true _ (λ h.
      let same = floor_only held parted at v span e up last q t f h in
      let spans : t ≡ span = some_same t span (sym f ∙ ap held same ∙ e) in
      true≢false (sym (subst (λ x. has (interval_at x span) v ≡ true) same (subst (λ (x : Span M). has (interval_at q x) v ≡ true) spans h)) ∙ lacks))

  -- no span begins at a unit that none has
  pub absent_where_none : (held : Held M) → AreParted held → (v : Serial) → ((q : Serial) (t : Span M) → held q ≡ Some t → has (interval_at q t) v ≡ false) → held v ≡ None
  absent_where_none held parted v none = by_cases (held v) refl
    where
      by_cases : (o : Option (Span M)) → held v ≡ o → o ≡ None
      by_cases None e = refl
      by_cases (Some s) e =
          let r = parted.ranges v s e in
          absurd (true≢false (sym (in_true_from v s v (record { line = refl; low = omega arith; high = r.1 })) ∙ none v s e))
