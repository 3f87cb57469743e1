-- Two spans that are made one, since one goes on where the other ends.
use Rattle.std.proofs.Common.{◌≡◌, ◌⊎◌, inl, inr, ◌+◌, ◌-◌, ◌≤◌, true, Option, Some, None, IsSome, refl, sym, ap, ◌∙◌, subst, arith}
use Rattle.std.proofs.lemmas.Bool.{cases_lt}
use Rattle.units.specs.Canonical.{GoesOn}
use Rattle.units.specs.Facts.{IsRange}
use Rattle.units.specs.Intervals.{has}
use Rattle.units.specs.Spans.{interval_at, AreParted, Mean, IsSeam, Puts}
use Rattle.units.specs.declared.block.Unit.{Unit as Serial}
use Rattle.units.specs.declared.unit_map.Span.{Span}
use Rattle.units.proofs.SpanPuts.{Held, put_here, put_other, one_unit, none_held, not_some, some_same, is_some_from}
use Rattle.units.proofs.SpanCuts.{goes_line, floor_only}
use Rattle.units.proofs.UnitLines.{UpTo, in_true, in_true_from, line_numbered_at}

abbrev pub unit_before : Serial → Serial
unit_before v = record { origin = v.origin; period = v.period; number = v.number - 1 }

module _ {M : Type 0} where
  -- the first span, to the end of the second
  abbrev pub both : Span M → Span M → Span M
  both l r = record { last = r.last; label = l.label }

  module _ (k v : Serial) (l r : Span M) (old middle new : Held M)
      (parted : AreParted old) (before : old k ≡ Some l) (there : old v ≡ Some r) (goes : GoesOn (interval_at k l) (interval_at v r))
      (first : Puts k (Some (both l r)) old middle) (second : Puts v None middle new) where
    next : l.last + 1 ≡ v.number
    next = goes.next

    behind : v ≡ k → ⊥
    behind same =
        let x = parted.ranges k l before in
        let n = next in
        let same_number : v.number ≡ k.number = ap (λ (u : Serial). u.number) same in
        absurd (omega arith)

    here : new k ≡ Some (both l r)
    here = put_other v None middle new second k behind ∙ put_here k (Some (both l r)) old middle first

    gone : new v ≡ None
    gone = put_here v None middle new second

    stays : (q : Serial) → (k ≡ q → ⊥) → (v ≡ q → ⊥) → new q ≡ old q
    stays q x y = put_other v None middle new second q y ∙ put_other k (Some (both l r)) old middle first q x

    each : (P : Serial → Span M → Type 0) → P k (both l r) → ((q : Serial) (t : Span M) → (k ≡ q → ⊥) → (v ≡ q → ⊥) → old q ≡ Some t → P q t) → (q : Serial) (t : Span M) → new q ≡ Some t → P q t
    each P a c q t e = elim (one_unit v q) [
      | inl same ↦ absurd (none_held t (sym gone ∙ ap new same ∙ e))
      | inr other ↦ elim (one_unit k q) [
        | inl same ↦
            let span : both l r ≡ t = some_same (both l r) t (sym here ∙ ap new same ∙ e) in
            subst (λ (x : Span M). P q x) span (subst (λ x. P x (both l r)) same a)
        | inr other' ↦ c q t other' other (sym (stays q other' other) ∙ e)
      ]
    ]

    from_both : (u : Serial) → has (interval_at k (both l r)) u ≡ true → (has (interval_at k l) u ≡ true) ⊎ (has (interval_at v r) u ≡ true)
    from_both u h =
        let i = in_true k (both l r) u h in
        let n = next in
        elim (cases_lt l.last u.number) [
          | inl lt ↦ inr (in_true_from v r u (record { line = sym (goes_line k v l r goes) ∙ i.line; low = omega arith; high = i.high }))
          | inr ge ↦ inl (in_true_from k l u (record { line = i.line; low = i.low; high = ge }))
        ]

    from_first : (u : Serial) → has (interval_at k l) u ≡ true → has (interval_at k (both l r)) u ≡ true
    from_first u h =
        let i = in_true k l u h in
        let n = next in
        let x = parted.ranges v r there in
        in_true_from k (both l r) u (record { line = i.line; low = i.low; high = (let y = i.high in omega arith) })

    from_second : (u : Serial) → has (interval_at v r) u ≡ true → has (interval_at k (both l r)) u ≡ true
    from_second u h =
        let i = in_true v r u h in
        let n = next in
        let x = parted.ranges k l before in
        in_true_from k (both l r) u (record { line = goes_line k v l r goes ∙ i.line; low = (let y = i.low in omega arith); high = i.high })

    pub joined_parted : AreParted new
    joined_parted =
        let x = parted.ranges k l before in
        let y = parted.ranges v r there in
        let n = next in
        record {
          ranges = each (λ q t. IsRange q.number t.last) (x.0, omega arith, y.2) (λ q t a b e. parted.ranges q t e);
          apart = λ p z s' t' e f h.
              each (λ q t. has (interval_at q t) z ≡ true → q ≡ z)
              (λ g. each (λ w t. has (interval_at k (both l r)) w ≡ true → k ≡ w) (λ i. refl)
              (λ w t a b i j. elim (from_both w j) [
                | inl c ↦ parted.apart k w l t before i c
                | inr c ↦ absurd (b (parted.apart v w r t there i c))
              ]) z t' f g)
              (λ q t a b i g. each (λ w u. has (interval_at q t) w ≡ true → q ≡ w) (λ j. parted.apart q k t l i before j) (λ w u a' b' i' j. parted.apart q w t u i i' j) z t' f g)
              p s' e h;
        }

    pub joined_mean : (f : Serial → Option M) → Mean old f → Mean new f
    joined_mean f mean = record {
      gives = λ p u s' e h.
          each (λ q t. has (interval_at q t) u ≡ true → f u ≡ Some t.label)
          (λ g. elim (from_both u g) [
            | inl c ↦ mean.gives k u l before c
            | inr c ↦ mean.gives v u r there c ∙ ap Some (sym goes.label)
          ])
          (λ q t a b i g. mean.gives q u t i g) p s' e h;
      given = λ u m e.
          let g = mean.given u m e in
          elim (one_unit k g.0) [
            | inl same ↦
                let span : l ≡ g.1 = some_same l g.1 (sym before ∙ ap old same ∙ g.2) in
                (k, both l r, here, from_first u (subst (λ q. has (interval_at q l) u ≡ true) (sym same) (subst (λ (t : Span M). has (interval_at g.0 t) u ≡ true) (sym span) g.3)))
            | inr other ↦ elim (one_unit v g.0) [
              | inl same ↦
                  let span : r ≡ g.1 = some_same r g.1 (sym there ∙ ap old same ∙ g.2) in
                  (k, both l r, here, from_second u (subst (λ q. has (interval_at q r) u ≡ true) (sym same) (subst (λ (t : Span M). has (interval_at g.0 t) u ≡ true) (sym span) g.3)))
              | inr other' ↦ (g.0, g.1, stays g.0 other other' ∙ g.2, g.3)
            ]
          ];
    }

    pub joined_keys : (q : Serial) → IsSome (new q) → IsSome (old q)
    joined_keys q some = by_cases (new q) refl
      where
        by_cases : (o : Option (Span M)) → new q ≡ o → IsSome (old q)
        by_cases None e = absurd (not_some (new q) e some)
        by_cases (Some t) e = each (λ p s. IsSome (old p)) (is_some_from (old k) l before) (λ p s a b i. is_some_from (old p) s i) q t e

    pub joined_seams : (q : Serial) → IsSeam new q → IsSeam old q × (v ≡ q → ⊥)
    joined_seams q seam =
        let x = parted.ranges k l before in
        let y = parted.ranges v r there in
        let n = next in
        each (λ w t. (p : Serial) (s : Span M) → new p ≡ Some s → GoesOn (interval_at p s) (interval_at w t) → IsSeam old w × (v ≡ w → ⊥))
        (each (λ p s. GoesOn (interval_at p s) (interval_at k (both l r)) → IsSeam old k × (v ≡ k → ⊥))
        (λ g. absurd (let m = g.next in omega arith))
        (λ p s a b e g. (record { before = p; left = s; right = l; first = e; second = before; goes_on = record { origin = g.origin; period = g.period; next = g.next; label = g.label } }, behind)))
        (λ w t a b i. each (λ p s. GoesOn (interval_at p s) (interval_at w t) → IsSeam old w × (v ≡ w → ⊥))
        (λ g. (record { before = v; left = r; right = t; first = there; second = i; goes_on = record { origin = sym goes.origin ∙ g.origin; period = sym goes.period ∙ g.period; next = g.next; label = sym goes.label ∙ g.label } }, b))
        (λ p s a' b' e g. (record { before = p; left = s; right = t; first = e; second = i; goes_on = g }, b)))
        q seam.right seam.second seam.before seam.left seam.first seam.goes_on

  -- ---- where no span goes on

  -- the span that ends right before the unit begins last before it
  pub not_a_seam : (held : Held M) → AreParted held → (at v : Serial) (left right : Span M) → 1 ≤ v.number → held at ≡ Some left → held v ≡ Some right → UpTo at (unit_before v)
      → ((q : Serial) → UpTo q (unit_before v) → IsSome (held q) → UpTo q at) → (GoesOn (interval_at at left) (interval_at v right) → ⊥) → IsSeam held v → ⊥
  not_a_seam held parted at v left right one e f up last goes seam =
      let g = seam.goes_on in
      let n : seam.left.last + 1 ≡ v.number = g.next in
      let r = parted.ranges seam.before seam.left seam.first in
      let here = in_true_from seam.before seam.left (unit_before v) (record { line = goes_line seam.before v seam.left seam.right g ∙ sym (line_numbered_at v (v.number - 1)); low = omega arith; high = omega arith }) in
      let same = floor_only held parted at (unit_before v) left e up last seam.before seam.left seam.first here in
      let lefts : seam.left ≡ left = some_same seam.left left (sym seam.first ∙ ap held same ∙ e) in
      let rights : seam.right ≡ right = some_same seam.right right (sym seam.second ∙ f) in
      goes (subst (λ k. GoesOn (interval_at k left) (interval_at v right)) same (subst (λ (l : Span M). GoesOn (interval_at seam.before l) (interval_at v right)) lefts (subst (λ (x : Span M). GoesOn (interval_at seam.before seam.left) (interval_at v x)) rights g)))
