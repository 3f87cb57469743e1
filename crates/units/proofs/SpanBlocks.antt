-- Walks over the spans of several blocks in turn.
use Rattle.std.proofs.Common.{◌≡◌, inl, inr, ℕ, ◌+◌, ◌<◌, List, [], ◌∷◌, ◌++◌, length, get_or, take, Bool, true, false, true≢false, ◌||◌, cond, Option, Some, None, refl, sym, ap, ◌∙◌, subst}
use Rattle.std.specs.BTreeMap.{BTreeMap, IsOrdered, get}
use Rattle.std.specs.List.{list_any}
use Rattle.std.specs.Option.{option_and_then}
use Rattle.std.proofs.Math.Bool.{or-false}
use Rattle.std.proofs.lemmas.Bool.{cases_Bool, or_from, or_parts, or_right, false_from_ne_true}
use Rattle.std.proofs.lemmas.List.{take_more}
use Rattle.std.proofs.lemmas.List.Folds.{list_any-append}
use Rattle.units.specs.Keys.{unit_cmp, first_unit, unit_numbered}
use Rattle.units.specs.SpanSteps.{AreJoinedIn, AreChangedIn}
use Rattle.units.specs.Spans.{AreParted, Mean, IsSeam, IsChanged, is_between, end_unit, reaches, reached, relabelled, respanned}
use Rattle.units.specs.Unit.{has_unit, covers}
use Rattle.units.specs.declared.block.Block.{Block}
use Rattle.units.specs.declared.block.Unit.{Unit as Serial}
use Rattle.units.specs.declared.unit_map.Span.{Span}
use Rattle.units.proofs.SpanFills.{in_between, between_block}
use Rattle.units.proofs.SpanPuts.{none_held, some_same}
use Rattle.units.proofs.SpanWalks.{up_self, relabelled_last}

-- a test of one block more
more_any : (p : Block → Bool) (blocks : List Block) (i : ℕ) (b : Block) → i < length blocks → b ≡ get_or blocks i b → list_any p (take (i + 1) blocks) ≡ (list_any p (take i blocks) || p b)
more_any p blocks i b lt is =
    ap (list_any p) (take_more blocks i b lt ∙ sym (ap (λ (c : Block). take i blocks ++ c ∷ []) is))
    ∙ list_any-append p (take i blocks) (b ∷ [])
    ∙ ap (λ t. list_any p (take i blocks) || t) (or-false (p b))

ends_same : (from to a b q : Serial) → from ≡ a → to ≡ b → is_between from to q ≡ is_between a b q
ends_same from to a b q e f = λ j. is_between (e j) (f j) q

module _ {M : Type 0} where
  pub along_more : (blocks : List Block) (i : ℕ) (b : Block) (old now new : BTreeMap Serial (Span M)) (from to : Serial) → i < length blocks → b ≡ get_or blocks i b → from ≡ first_unit b.raw → to ≡ end_unit b.raw
      → AreJoinedIn (take i blocks) old now → AreParted (get unit_cmp new) → IsOrdered unit_cmp new → ((f : Serial → Option M) → Mean (get unit_cmp now) f → Mean (get unit_cmp new) f)
      → ((q : Serial) → IsSeam (get unit_cmp new) q → IsSeam (get unit_cmp now) q × (is_between from to q ≡ false)) → AreJoinedIn (take (i + 1) blocks) old new
  along_more blocks i b old now new from to lt is is_first is_end so_far parted ordered means seams = record {
    parted = parted;
    ordered = ordered;
    means = λ f mean. means f (so_far.means f mean);
    seams = λ q seam.
        let one = seams q seam in
        let two = so_far.seams q one.0 in
        (two.0, more_any (λ c. reaches c.raw q) blocks i b lt is ∙ or_from (reached (take i blocks) q) (reaches b.raw q) two.1 (sym (λ j. is_between (is_first j) (is_end j) q) ∙ one.1));
  }

  -- ---- the new label of one span

  pub changed_gives : (R : M → Option M → Type 0) (after : M → Option M) → ((m : M) (r : Option M) → R m r → r ≡ after m) → (o n : Option (Span M)) → IsChanged R o n → n ≡ respanned after o
  changed_gives R after gives None n changed = changed
  changed_gives R after gives (Some s) n changed = changed.2 ∙ ap (relabelled s) (gives s.label changed.0 changed.1)

  pub changed_same : (R : M → Option M → Type 0) (s : Span M) (o n : Option (Span M)) → IsChanged R o n → o ≡ Some s → ((r : Option M) → R s.label r → r ≡ Some s.label) → n ≡ Some s
  changed_same R s None n changed e only = absurd (none_held s e)
  changed_same R s (Some t) n changed e only =
      let same : s ≡ t = sym (some_same t s e) in
      let kept : (x : Span M) → s ≡ x → (r : Option M) → R x.label r → n ≡ relabelled x r → n ≡ Some s = λ x is r h f. f ∙ sym (λ i. relabelled (is i) r) ∙ ap (relabelled s) (only r (subst (λ (y : Span M). R y.label r) (sym is) h)) in
      kept t same changed.0 changed.1 changed.2

  pub changed_shape : (R : M → Option M → Type 0) (t : Span M) (o n : Option (Span M)) → IsChanged R o n → n ≡ Some t → (s : Span M) × (o ≡ Some s) × (s.last ≡ t.last)
  changed_shape R t None n changed e = absurd (none_held t (sym changed ∙ e))
  changed_shape R t (Some s) n changed e = (s, refl, relabelled_last s t changed.0 (sym changed.2 ∙ e))

  fewer_one : (s t : Span M) (r : Option M) → relabelled s r ≡ Some t → ((m : M) → r ≡ Some m → m ≡ s.label) → Some s ≡ Some t
  fewer_one s t None e only = absurd (none_held t e)
  fewer_one s t (Some m) e only =
      let label = only m refl in
      let is : record { last = s.last; label = m } ≡ t = some_same (record { last = s.last; label = m }) t e in
      ap Some ((λ i. record { last = s.last; label = sym label i }) ∙ is)

  pub changed_fewer : (R : M → Option M → Type 0) → ((m r : M) → R m (Some r) → r ≡ m) → (t : Span M) (o n : Option (Span M)) → IsChanged R o n → n ≡ Some t → o ≡ Some t
  changed_fewer R only t None n changed e = absurd (none_held t (sym changed ∙ e))
  changed_fewer R only t (Some s) n changed e = fewer_one s t changed.0 (sym changed.2 ∙ e) (λ m is. only s.label m (subst (R s.label) is changed.1))

  twice : (after : M → Option M) → ((m : M) → option_and_then after (after m) ≡ after m) → (o : Option (Span M)) → respanned after (respanned after o) ≡ respanned after o
  twice after again None = refl
  twice after again (Some s) = by_label (after s.label) refl
    where
      by_label : (r : Option M) → after s.label ≡ r → respanned after (relabelled s (after s.label)) ≡ relabelled s (after s.label)
      by_label None e = rw e refl
      by_label (Some m) e =
          let same : after m ≡ Some m = subst (λ r. option_and_then after r ≡ r) e (again s.label) in
          rw e (ap (relabelled s) same)

  -- ---- other labels, block by block

  pub change_more : (R : M → Option M → Type 0) (blocks : List Block) (i : ℕ) (b : Block) (old now new : BTreeMap Serial (Span M)) (from to : Serial) → i < length blocks → b ≡ get_or blocks i b → from ≡ first_unit b.raw → to ≡ unit_numbered b.raw b.raw.last
      → AreChangedIn R (take i blocks) old now → AreParted (get unit_cmp new) → IsOrdered unit_cmp new
      → ((q : Serial) → is_between from to q ≡ true → IsChanged R (get unit_cmp now q) (get unit_cmp new q)) → ((q : Serial) → is_between from to q ≡ false → get unit_cmp new q ≡ get unit_cmp now q)
      → AreChangedIn R (take (i + 1) blocks) old new
  change_more R blocks i b old now new from to lt is is_first is_end so_far parted ordered inside out' =
      let ends = λ (q : Serial). ends_same from to (first_unit b.raw) (unit_numbered b.raw b.raw.last) q is_first is_end in
      let within = λ (q : Serial) (h : has_unit b.raw q ≡ true). inside q (ends q ∙ in_between b.raw q h) in
      let without = λ (q : Serial) (h : has_unit b.raw q ≡ false). out' q (ends q ∙ false_from_ne_true _ (λ x. true≢false (sym (between_block b.raw (first_unit b.raw) q (up_self (first_unit b.raw)) x) ∙ h))) in
      let more = λ (q : Serial). more_any (λ c. has_unit c.raw q) blocks i b lt is in
      record {
        parted = parted;
        ordered = ordered;
        changed = λ after gives again q.
            let before = so_far.changed after gives again q in
            elim (cases_Bool (has_unit b.raw q)) [
              | inl in' ↦
                  changed_gives R after gives (get unit_cmp now q) (get unit_cmp new q) (within q in')
                  ∙ ap (respanned after) before
                  ∙ again_or_first after again (covers (take i blocks) q) (get unit_cmp old q)
                  ∙ sym (ap (λ t. cond t (respanned after (get unit_cmp old q)) (get unit_cmp old q)) (more q ∙ or_right (covers (take i blocks) q) (has_unit b.raw q) in'))
              | inr out ↦
                  without q out ∙ before
                  ∙ sym (ap (λ t. cond t (respanned after (get unit_cmp old q)) (get unit_cmp old q)) (more q ∙ either_false (covers (take i blocks) q) (has_unit b.raw q) out))
            ];
        same = λ q s e only. elim (cases_Bool (has_unit b.raw q)) [
          | inl in' ↦ changed_same R s (get unit_cmp now q) (get unit_cmp new q) (within q in') (so_far.same q s e only) only
          | inr out ↦ without q out ∙ so_far.same q s e only
        ];
        reshaped = λ q t e. elim (cases_Bool (has_unit b.raw q)) [
          | inl in' ↦
              let x = changed_shape R t (get unit_cmp now q) (get unit_cmp new q) (within q in') e in
              let y = so_far.reshaped q x.0 x.1 in
              (y.0, y.1, y.2 ∙ x.2)
          | inr out ↦ so_far.reshaped q t (sym (without q out) ∙ e)
        ];
        fewer = λ only q t e. elim (cases_Bool (has_unit b.raw q)) [
          | inl in' ↦ so_far.fewer only q t (changed_fewer R only t (get unit_cmp now q) (get unit_cmp new q) (within q in') e)
          | inr out ↦ so_far.fewer only q t (sym (without q out) ∙ e)
        ];
        outside = λ q out.
            let two = or_parts (covers (take i blocks) q) (has_unit b.raw q) (sym (more q) ∙ out) in
            without q two.1 ∙ so_far.outside q two.0;
      }
    where
      again_or_first : (after : M → Option M) → ((m : M) → option_and_then after (after m) ≡ after m) → (t : Bool) (o : Option (Span M)) → respanned after (cond t (respanned after o) o) ≡ respanned after o
      again_or_first after again true o = twice after again o
      again_or_first after again false o = refl

      either_false : (s t : Bool) → t ≡ false → (s || t) ≡ s
      either_false true t e = refl
      either_false false t e = e
