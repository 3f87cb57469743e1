-- A span cut in two before one of its units: the meaning of the spans, where they are cut, and which go on where others
-- end.
use Rattle.std.proofs.Common.{◌≡◌, ◌⊎◌, inl, inr, ◌-◌, ◌<◌, ◌≤◌, true, cond, Option, Some, None, IsSome, refl, sym, ap, ◌∙◌, subst, arith}
use Rattle.std.specs.BTreeMap.{is_at}
use Rattle.std.proofs.lemmas.Bool.{cases_lt}
use Rattle.units.specs.Canonical.{GoesOn}
use Rattle.units.specs.Facts.{IsRange}
use Rattle.units.specs.Intervals.{has}
use Rattle.units.specs.Keys.{unit_cmp}
use Rattle.units.specs.SpanSteps.{Restores, IsBegun}
use Rattle.units.specs.Spans.{interval_at, AreParted, Mean, IsSeam, Puts, begun}
use Rattle.units.specs.declared.block.Unit.{Unit as Serial}
use Rattle.units.specs.declared.unit_map.Span.{Span}
use Rattle.units.specs.declared.unit_map.cutting.Step.TheVariants.{Cut}
use Rattle.units.proofs.SpanLists.{one_span}
use Rattle.units.proofs.SpanPuts.{Held, put_here, put_other, one_unit, none_held, not_some, some_same}
use Rattle.units.proofs.SpanCuts.{mean_same, begun_there, goes_line}
use Rattle.units.proofs.UnitLines.{In, in_true, in_true_from, same_unit, same_origin, same_period_of, at_self, at_false_from}

module _ {M : Type 0} where
  -- the part before the cut
  abbrev pub left_of : Serial → Span M → Span M
  left_of v s = record { last = v.number - 1; label = s.label }

  module _ (k v : Serial) (s : Span M) (old middle new : Held M)
      (parted : AreParted old) (there : old k ≡ Some s) (within : has (interval_at k s) v ≡ true) (absent : old v ≡ None)
      (first : Puts v (Some s) old middle) (second : Puts k (Some (left_of v s)) middle new) where
    behind : k ≡ v → ⊥
    behind same = none_held s (sym absent ∙ ap old (sym same) ∙ there)

    inside : In k s.last v
    inside = in_true k s v within

    below : k.number < v.number
    below = elim (cases_lt k.number v.number) [
      | inl lt ↦ lt
      | inr ge ↦ let i = inside in absurd (behind (same_unit k v i.line (let l = i.low in omega arith)))
    ]

    left_here : new k ≡ Some (left_of v s)
    left_here = put_here k (Some (left_of v s)) middle new second

    right_here : new v ≡ Some s
    right_here = put_other k (Some (left_of v s)) middle new second v behind ∙ put_here v (Some s) old middle first

    stays : (q : Serial) → (k ≡ q → ⊥) → (v ≡ q → ⊥) → new q ≡ old q
    stays q x y = put_other k (Some (left_of v s)) middle new second q x ∙ put_other v (Some s) old middle first q y

    -- a property of both parts, and of the others, is one of each
    each : (P : Serial → Span M → Type 0) → P k (left_of v s) → P v s → ((q : Serial) (t : Span M) → (k ≡ q → ⊥) → (v ≡ q → ⊥) → old q ≡ Some t → P q t) → (q : Serial) (t : Span M) → new q ≡ Some t → P q t
    each P a b c q t e = elim (one_unit k q) [
      | inl same ↦
          let span : left_of v s ≡ t = some_same (left_of v s) t (sym left_here ∙ ap new same ∙ e) in
          subst (λ (x : Span M). P q x) span (subst (λ x. P x (left_of v s)) same a)
      | inr other ↦ elim (one_unit v q) [
        | inl same ↦
            let span : s ≡ t = some_same s t (sym right_here ∙ ap new same ∙ e) in
            subst (λ (x : Span M). P q x) span (subst (λ x. P x s) same b)
        | inr other' ↦ c q t other other' (sym (stays q other other') ∙ e)
      ]
    ]

    -- a unit of a part is the span's
    from_left : (u : Serial) → has (interval_at k (left_of v s)) u ≡ true → (has (interval_at k s) u ≡ true) × (u.number < v.number)
    from_left u h =
        let i = in_true k (left_of v s) u h in
        let b = below in
        let j = inside in
        (in_true_from k s u (record { line = i.line; low = i.low; high = (let x = i.high in let y = j.high in omega arith) }), (let x = i.high in omega arith))

    from_right : (u : Serial) → has (interval_at v s) u ≡ true → (has (interval_at k s) u ≡ true) × (v.number ≤ u.number)
    from_right u h =
        let i = in_true v s u h in
        let j = inside in
        (in_true_from k s u (record { line = j.line ∙ i.line; low = (let x = i.low in let y = j.low in omega arith); high = i.high }), i.low)

    to_part : (u : Serial) → has (interval_at k s) u ≡ true → (has (interval_at k (left_of v s)) u ≡ true) ⊎ (has (interval_at v s) u ≡ true)
    to_part u h =
        let i = in_true k s u h in
        let j = inside in
        elim (cases_lt u.number v.number) [
          | inl lt ↦ inl (in_true_from k (left_of v s) u (record { line = i.line; low = i.low; high = omega arith }))
          | inr ge ↦ inr (in_true_from v s u (record { line = sym j.line ∙ i.line; low = ge; high = i.high }))
        ]

    not_first : has (interval_at v s) k ≡ true → ⊥
    not_first h = let x = (from_right k h).1 in let y = below in absurd (omega arith)

    -- a span that has the unit is the one that is cut
    owner : (q : Serial) (t : Span M) → old q ≡ Some t → has (interval_at q t) v ≡ true → k ≡ q
    owner q t e h = one_span old parted k q v s t there e within h

    halves_parted : AreParted new
    halves_parted =
        let r = parted.ranges k s there in
        let b = below in
        let j = inside in
        record {
          ranges = each (λ q t. IsRange q.number t.last) (r.0, omega arith, (let h = j.high in omega arith)) (omega arith, j.high, r.2) (λ q t x y e. parted.ranges q t e);
          apart = λ p l s' t' e f h.
              each (λ q t. has (interval_at q t) l ≡ true → q ≡ l)
              (λ g. each (λ z w. has (interval_at k (left_of v s)) z ≡ true → k ≡ z) (λ i. refl) (λ i. absurd (let x = (from_left v i).1 in omega arith)) (λ z w x y i j'. parted.apart k z s w there i (from_left z j').0) l t' f g)
              (λ g. each (λ z w. has (interval_at v s) z ≡ true → v ≡ z) (λ i. absurd (not_first i)) (λ i. refl) (λ z w x y i j'. absurd (x (parted.apart k z s w there i (from_right z j').0))) l t' f g)
              (λ q t x y i g. each (λ z w. has (interval_at q t) z ≡ true → q ≡ z) (λ j'. parted.apart q k t s i there j') (λ j'. absurd (x (owner q t i j'))) (λ z w x' y' i' j'. parted.apart q z t w i i' j') l t' f g)
              p s' e h;
        }

    halves_mean : (f : Serial → Option M) → Mean old f → Mean new f
    halves_mean f mean = record {
      gives = λ p u s' e h.
          each (λ q t. has (interval_at q t) u ≡ true → f u ≡ Some t.label)
          (λ g. mean.gives k u s there (from_left u g).0)
          (λ g. mean.gives k u s there (from_right u g).0)
          (λ q t x y i g. mean.gives q u t i g) p s' e h;
      given = λ u m e.
          let g = mean.given u m e in
          elim (one_unit k g.0) [
            | inl same ↦
                let span : s ≡ g.1 = some_same s g.1 (sym there ∙ ap old same ∙ g.2) in
                let mine : has (interval_at k s) u ≡ true = subst (λ q. has (interval_at q s) u ≡ true) (sym same) (subst (λ (t : Span M). has (interval_at g.0 t) u ≡ true) (sym span) g.3) in
                elim (to_part u mine) [
                  | inl l ↦ (k, left_of v s, left_here, l)
                  | inr r ↦ (v, s, right_here, r)
                ]
            | inr other ↦ (g.0, g.1, stays g.0 other (λ same. none_held g.1 (sym absent ∙ ap old same ∙ g.2)) ∙ g.2, g.3)
          ];
    }

    halves_keys : (q : Serial) (o : Option (Span M)) → old q ≡ o → IsSome (old q) → IsSome (new q)
    halves_keys q None e some = absurd (not_some (old q) e some)
    halves_keys q (Some t) e some = elim (one_unit k q) [
      | inl same ↦ subst (λ x. IsSome (new x)) same (subst (λ (o : Option (Span M)). IsSome o) (sym left_here) refl)
      | inr other ↦ subst (λ (o : Option (Span M)). IsSome o) (sym (stays q other (λ same. none_held t (sym absent ∙ ap old same ∙ e)) ∙ e)) refl
    ]

    halves_seams : (q : Serial) → IsSeam new q → IsSeam old q ⊎ (q ≡ v)
    halves_seams q seam =
        let b = below in
        let j = inside in
        each (λ w r. (p : Serial) (l : Span M) → new p ≡ Some l → GoesOn (interval_at p l) (interval_at w r) → IsSeam old w ⊎ (w ≡ v))
        (each (λ p l. GoesOn (interval_at p l) (interval_at k (left_of v s)) → IsSeam old k ⊎ (k ≡ v))
        (λ g. absurd (let n = g.next in omega arith))
        (λ g. absurd (let n = g.next in let h = j.high in omega arith))
        (λ p l x y e g. inl (record { before = p; left = l; right = s; first = e; second = there; goes_on = record { origin = g.origin; period = g.period; next = g.next; label = g.label } })))
        (λ p l e g. inr refl)
        (λ w r x y i. each (λ p l. GoesOn (interval_at p l) (interval_at w r) → IsSeam old w ⊎ (w ≡ v))
        (λ g. absurd (y (same_unit v w (sym j.line ∙ goes_line k w (left_of v s) r g) (let n = g.next in omega arith))))
        (λ g. inl (record { before = k; left = s; right = r; first = there; second = i; goes_on = record { origin = same_origin k v j.line ∙ g.origin; period = same_period_of k v j.line ∙ g.period; next = g.next; label = g.label } }))
        (λ p l x' y' e g. inl (record { before = p; left = l; right = r; first = e; second = i; goes_on = g })))
        q seam.right seam.second seam.before seam.left seam.first seam.goes_on

    pub begun_cut : (given : Option M) → IsBegun v given old new
    begun_cut given = record {
      parted = halves_parted;
      means = λ f mean. mean_same new f (begun v given f) (begun_there v given f s.label (mean.gives k v s there within)) (halves_mean f mean);
      cut = each (λ q t. has (interval_at q t) v ≡ true → q ≡ v) (λ h. absurd (let x = (from_left v h).1 in omega arith)) (λ h. refl) (λ q t x y e h. absurd (x (owner q t e h)));
      cuts = λ w c. each (λ q t. has (interval_at q t) w ≡ true → q ≡ w)
          (λ h. c k s there (from_left w h).0)
          (λ h. absurd (not_first (subst (λ z. has (interval_at v s) z ≡ true) (sym (c k s there (from_right w h).0)) h)))
          (λ q t x y e h. c q t e h);
      key = λ some. subst (λ (o : Option (Span M)). IsSome o) (sym right_here) refl;
      keys = λ q some. halves_keys q (old q) refl some;
      seams = λ q seam. elim (halves_seams q seam) [ inl o ↦ inl o | inr n ↦ inr (inl n) ];
    }

    pub restores_cut : Restores (Cut k v s) old new
    restores_cut = (
      at_false_from v k (λ same. behind (sym same)),
      subst (λ (o : Option (Span M)). IsSome o) (sym left_here) refl,
      λ q. elim (one_unit k q) [
        | inl same ↦ ap old (sym same) ∙ there ∙ ap (λ t. cond t (Some s) (cond (is_at (unit_cmp v) q) None (new q))) (sym (ap (is_at (unit_cmp k)) (sym same) ∙ at_self k))
        | inr other ↦ elim (one_unit v q) [
          | inl same ↦ ap old (sym same) ∙ absent ∙ sym (ap (λ t. cond t (Some s) (cond (is_at (unit_cmp v) q) None (new q))) (at_false_from k q other) ∙ ap (λ t. cond t None (new q)) (ap (is_at (unit_cmp v)) (sym same) ∙ at_self v))
          | inr other' ↦ sym (ap (λ t. cond t (Some s) (cond (is_at (unit_cmp v) q) None (new q))) (at_false_from k q other) ∙ ap (λ t. cond t None (new q)) (at_false_from v q other') ∙ stays q other other')
        ]
      ],
    )
