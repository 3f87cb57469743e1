-- Walks from one unit to another over the spans that begin there: the changes before the unit that comes next.
use Rattle.std.proofs.Common.{◌≡◌, inl, inr, ◌+◌, ◌-◌, ◌^◌, ◌<◌, ◌≤◌, true, false, true≢false, Option, Some, None, IsSome, refl, sym, ap, ◌∙◌, subst, arith}
use Rattle.std.specs.BTreeMap.{BTreeMap, IsOrdered, get}
use Rattle.std.proofs.lemmas.Bool.{cases_lt}
use Rattle.units.specs.Keys.{unit_cmp}
use Rattle.units.specs.Limits.{last_unit}
use Rattle.units.specs.Spans.{AreParted, AreReshaped, Mean, IsSeam, IsChanged, Puts, after_unit, is_between, relabelled}
use Rattle.units.specs.declared.block.Unit.{Unit as Serial}
use Rattle.units.specs.declared.unit_map.Span.{Span}
use Rattle.units.proofs.SpanPuts.{Held, put_here, put_other, one_unit, none_held, some_same, is_some_from}
use Rattle.units.proofs.UnitLines.{line_of, line_after, Before, UpTo, in_true, in_true_from, not_less, same_unit, either_way, between_true, between_true_from, between_false_from}
use Rattle.units.proofs.UnitOrder.{rank, index, index_bound}

-- ---- the order of units

pub up_trans : (a b c : Serial) → UpTo a b → UpTo b c → UpTo a c
up_trans a b c p q =
    let x = p.line in
    let y = q.line in
    record { line = omega arith; number = λ e. let m = p.number (omega arith) in let n = q.number (omega arith) in omega arith }

pub before_up : (a b c : Serial) → Before a b → UpTo b c → Before a c
before_up a b c p q =
    let x = p.line in
    let y = q.line in
    record { line = omega arith; number = λ e. let m = p.number (omega arith) in let n = q.number (omega arith) in omega arith }

pub up_from_before : (a b : Serial) → Before a b → UpTo a b
up_from_before a b p = record { line = p.line; number = λ e. let m = p.number e in omega arith }

pub up_self : (a : Serial) → UpTo a a
up_self a = record { line = omega arith; number = λ e. omega arith }

pub not_both : (a b : Serial) → Before a b → UpTo b a → ⊥
not_both a b p q = not_less a (before_up a b a p q)

pub up_to_one : (a b : Serial) → UpTo a b → UpTo b a → a ≡ b
up_to_one a b p q =
    let x = p.line in
    let y = q.line in
    let m = p.number (omega arith) in
    let n = q.number (omega arith) in
    same_unit a b (omega arith) (omega arith)

-- a unit before the one after a unit is at most that unit
pub before_after : (q k : Serial) → Before q (after_unit k) → UpTo q k
before_after q k p =
    let same = line_after k in
    let x = p.line in
    record { line = omega arith; number = λ e. let m = p.number (omega arith) in omega arith }

pub itself_after : (k : Serial) → Before k (after_unit k)
itself_after k = let same = line_after k in record { line = omega arith; number = λ e. omega arith }

index_up : (a k : Serial) → a.number ≤ last_unit + 1 → 1 ≤ k.number → UpTo a k → index a ≤ index k
unfolding line_of
index_up a k m n h = elim (cases_lt (rank a) (rank k)) [
  | inl lower ↦ omega arith
  | inr upper ↦ let x = h.line in let y = h.number upper in omega arith
]

-- each step brings the walk nearer to the greatest unit
pub nearer : (c k : Serial) → c.number ≤ last_unit + 1 → 1 ≤ k.number → k.number ≤ last_unit → UpTo c k → 2 ^ 63 - index (after_unit k) < 2 ^ 63 - index c
nearer c k m n p h =
    let up = index_up c k m n h in
    let top = index_bound k p in
    omega arith

module _ {M : Type 0} where
  -- ---- spans that go on are joined, up to the unit that comes next

  pub record JoinedTo (a c : Serial) (old now : BTreeMap Serial (Span M)) : Type 0 where
    pub parted : AreParted (get unit_cmp now)
    pub ordered : IsOrdered unit_cmp now
    pub start : c.number ≤ last_unit + 1
    pub up : UpTo a c
    pub means : (f : Serial → Option M) → Mean (get unit_cmp old) f → Mean (get unit_cmp now) f
    pub seams : (q : Serial) → IsSeam (get unit_cmp now) q → IsSeam (get unit_cmp old) q × (UpTo a q → Before q c → ⊥)

  pub joined_more : (a c k : Serial) (s : Span M) (old now new : BTreeMap Serial (Span M)) → JoinedTo a c old now → get unit_cmp now k ≡ Some s → UpTo c k
      → ((q : Serial) → UpTo c q → IsSome (get unit_cmp now q) → UpTo k q)
      → AreParted (get unit_cmp new) → IsOrdered unit_cmp new → ((f : Serial → Option M) → Mean (get unit_cmp now) f → Mean (get unit_cmp new) f)
      → ((q : Serial) → IsSeam (get unit_cmp new) q → IsSeam (get unit_cmp now) q × (k ≡ q → ⊥)) → JoinedTo a (after_unit k) old new
  joined_more a c k s old now new so_far there up least parted ordered means seams =
      let r = so_far.parted.ranges k s there in
      record {
        parted = parted;
        ordered = ordered;
        start = omega arith;
        up = up_trans a c (after_unit k) so_far.up (up_trans c k (after_unit k) up (up_from_before k (after_unit k) (itself_after k)));
        means = λ f mean. means f (so_far.means f mean);
        seams = λ q seam.
            let one = seams q seam in
            let two = so_far.seams q one.0 in (
              two.0,
              λ p b. elim (either_way q c) [
                | inl before ↦ two.1 p before
                | inr behind ↦ one.1 (up_to_one k q (least q behind (is_some_from (get unit_cmp now q) one.0.right one.0.second)) (before_after q k b))
              ],
            );
      }

  pub joined_at_end : (a b c : Serial) (old now : BTreeMap Serial (Span M)) → JoinedTo a c old now → ((q : Serial) → UpTo c q → IsSome (get unit_cmp now q) → Before b q)
      → (q : Serial) → IsSeam (get unit_cmp now) q → IsSeam (get unit_cmp old) q × (is_between a b q ≡ false)
  joined_at_end a b c old now so_far past q seam =
      let two = so_far.seams q seam in (
        two.0,
        between_false_from a b q (λ x y. elim (either_way q c) [
          | inl before ↦ two.1 x before
          | inr behind ↦ not_both b q (past q behind (is_some_from (get unit_cmp now q) seam.right seam.second)) y
        ]),
      )

  -- ---- other labels, or none, for the spans up to the unit that comes next

  pub reshaped_parted : (old new : Held M) → AreReshaped old new → AreParted old → AreParted new
  reshaped_parted old new same parted = record {
    ranges = λ k t e. let s = same k t e in let r = parted.ranges k s.0 s.1 in (r.0, (let x = s.2 in omega arith), (let x = s.2 in omega arith));
    apart = λ k l t u e f h.
        let s = same k t e in
        let w = same l u f in
        let i = in_true k t l h in
        parted.apart k l s.0 w.0 s.1 w.1 (in_true_from k s.0 l (record { line = i.line; low = i.low; high = (let x = s.2 in let y = i.high in omega arith) }));
  }

  pub relabelled_last : (s t : Span M) (r : Option M) → relabelled s r ≡ Some t → s.last ≡ t.last
  relabelled_last s t None e = absurd (none_held t e)
  relabelled_last s t (Some m) e = ap (λ (x : Span M). x.last) (some_same (record { last = s.last; label = m }) t e)

  pub put_reshapes : (k : Serial) (s : Span M) (r : Option M) (old new : Held M) → old k ≡ Some s → Puts k (relabelled s r) old new → AreReshaped old new
  put_reshapes k s r old new there puts q t e = elim (one_unit k q) [
    | inl same ↦ (s, ap old (sym same) ∙ there, relabelled_last s t r (sym (put_here k (relabelled s r) old new puts) ∙ ap new same ∙ e))
    | inr other ↦ (t, sym (put_other k (relabelled s r) old new puts q other) ∙ e, refl)
  ]

  pub record ChangedTo (R : M → Option M → Type 0) (a b c : Serial) (old now : BTreeMap Serial (Span M)) : Type 0 where
    pub parted : AreParted (get unit_cmp now)
    pub ordered : IsOrdered unit_cmp now
    pub start : c.number ≤ last_unit + 1
    pub up : UpTo a c
    pub far : (q : Serial) → UpTo a q → Before q c → UpTo q b
    pub inside : (q : Serial) → UpTo a q → Before q c → IsChanged R (get unit_cmp old q) (get unit_cmp now q)
    pub outside : (q : Serial) → (UpTo a q → Before q c → ⊥) → get unit_cmp now q ≡ get unit_cmp old q

  changed_nothing : (R : M → Option M → Type 0) (o n : Option (Span M)) → o ≡ None → n ≡ None → IsChanged R o n
  changed_nothing R o n e f = subst (λ x. IsChanged R x n) (sym e) f

  -- where no span begins
  nothing_at : (now : Held M) (q : Serial) → (IsSome (now q) → ⊥) → now q ≡ None
  nothing_at now q no' = by_cases (now q) refl
    where
      by_cases : (o : Option (Span M)) → now q ≡ o → o ≡ None
      by_cases None e = refl
      by_cases (Some s) e = absurd (no' (is_some_from (now q) s e))

  pub changed_more : (R : M → Option M → Type 0) (a b c k : Serial) (s : Span M) (r : Option M) (old now new : BTreeMap Serial (Span M)) → ChangedTo R a b c old now → get unit_cmp now k ≡ Some s → UpTo c k → UpTo k b
      → ((q : Serial) → UpTo c q → IsSome (get unit_cmp now q) → UpTo k q) → R s.label r
      → Puts k (relabelled s r) (get unit_cmp now) (get unit_cmp new) → IsOrdered unit_cmp new → ChangedTo R a b (after_unit k) old new
  changed_more R a b c k s r old now new so_far there up near least becomes puts ordered =
      let range = so_far.parted.ranges k s there in
      let was : get unit_cmp old k ≡ Some s = sym (so_far.outside k (λ x y. not_both k c y up)) ∙ there in
      let others = put_other k (relabelled s r) (get unit_cmp now) (get unit_cmp new) puts in
      record {
        parted = reshaped_parted (get unit_cmp now) (get unit_cmp new) (put_reshapes k s r (get unit_cmp now) (get unit_cmp new) there puts) so_far.parted;
        ordered = ordered;
        start = omega arith;
        up = up_trans a c (after_unit k) so_far.up (up_trans c k (after_unit k) up (up_from_before k (after_unit k) (itself_after k)));
        far = λ q x y. up_trans q k b (before_after q k y) near;
        inside = λ q x y. elim (one_unit k q) [
          | inl same ↦ subst (λ z. IsChanged R (get unit_cmp old z) (get unit_cmp new z)) same (subst (λ o. IsChanged R o (get unit_cmp new k)) (sym was) (r, becomes, put_here k (relabelled s r) (get unit_cmp now) (get unit_cmp new) puts))
          | inr other ↦ elim (either_way q c) [
            | inl before ↦ subst (IsChanged R (get unit_cmp old q)) (sym (others q other)) (so_far.inside q x before)
            | inr behind ↦
                let none = nothing_at (get unit_cmp now) q (λ some. other (up_to_one k q (least q behind some) (before_after q k y))) in
                changed_nothing R (get unit_cmp old q) (get unit_cmp new q) (sym (so_far.outside q (λ x' y'. not_both q c y' behind)) ∙ none) (others q other ∙ none)
          ]
        ];
        outside = λ q out.
            others q (λ same. out (up_trans a c q so_far.up (subst (UpTo c) same up)) (subst (λ z. Before z (after_unit k)) same (itself_after k)))
            ∙ so_far.outside q (λ x y. out x (before_up q c (after_unit k) y (up_trans c k (after_unit k) up (up_from_before k (after_unit k) (itself_after k)))));
      }

  pub changed_inside : (R : M → Option M → Type 0) (a b c : Serial) (old now : BTreeMap Serial (Span M)) → ChangedTo R a b c old now → ((q : Serial) → UpTo c q → IsSome (get unit_cmp now q) → Before b q)
      → (q : Serial) → is_between a b q ≡ true → IsChanged R (get unit_cmp old q) (get unit_cmp now q)
  changed_inside R a b c old now so_far past q here =
      let h = between_true a b q here in
      elim (either_way q c) [
        | inl before ↦ so_far.inside q h.0 before
        | inr behind ↦
            let none = nothing_at (get unit_cmp now) q (λ some. not_both b q (past q behind some) h.1) in
            changed_nothing R (get unit_cmp old q) (get unit_cmp now q) (sym (so_far.outside q (λ x y. not_both q c y behind)) ∙ none) none
      ]

  pub changed_outside : (R : M → Option M → Type 0) (a b c : Serial) (old now : BTreeMap Serial (Span M)) → ChangedTo R a b c old now
      → (q : Serial) → is_between a b q ≡ false → get unit_cmp now q ≡ get unit_cmp old q
  changed_outside R a b c old now so_far q out = so_far.outside q (λ x y. true≢false (sym (between_true_from a b q x (so_far.far q x y)) ∙ out))
