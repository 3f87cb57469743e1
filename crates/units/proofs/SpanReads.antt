-- The label of a unit in an ordered map of spans, by the span that begins last before it.
use Rattle.std.proofs.Common.{◌≡◌, ◌≢◌, ◌⊎◌, inl, inr, ℕ, ◌<◌, ◌≤◌, Bool, true, false, Option, Some, None, IsSome, refl, sym, ap, ◌∙◌, subst, arith}
use Rattle.std.specs.BTreeMap.{BTreeMap, IsOrdered, get}
use Rattle.std.specs.Option.{option_map}
use Rattle.std.proofs.lemmas.Bool.{cases_lt, leb-true}
use Rattle.units.specs.Facts.{IsRange}
use Rattle.units.specs.Cutting.{meets}
use Rattle.units.specs.Intervals.{has}
use Rattle.units.specs.Keys.{unit_cmp, unit_numbered}
use Rattle.units.specs.Spans.{interval_at, AreParted, labels_in}
use Rattle.units.specs.Unit.{has_unit}
use Rattle.units.specs.declared.block.RawBlock.{RawBlock}
use Rattle.units.specs.declared.block.Unit.{Unit as Serial}
use Rattle.units.specs.declared.unit_map.Span.{Span}
use Rattle.units.proofs.Cutting.{has_meets, meets-true}
use Rattle.units.proofs.SpanLists.{means}
use Rattle.units.proofs.SpanPuts.{some_same, is_some_from}
use Rattle.units.proofs.SpanCuts.{unlabelled, floor_none, floor_lacks}
use Rattle.units.proofs.UnitLines.{line_of, line_numbered, UpTo, in_true, in_true_from, block_true, block_true_from}

module _ {M : Type 0} where
  -- the span has the unit
  pub told_some : (m : BTreeMap Serial (Span M)) → AreParted (get unit_cmp m) → IsOrdered unit_cmp m → (at : Serial) (span : Span M) → get unit_cmp m at ≡ Some span
      → (u : Serial) → has (interval_at at span) u ≡ true → labels_in m u ≡ Some span.label
  told_some m parted ordered at span e u h = (means m ordered parted).gives at u span e h

  pub told_lacking : (m : BTreeMap Serial (Span M)) → AreParted (get unit_cmp m) → IsOrdered unit_cmp m → (at v : Serial) (span : Span M) → get unit_cmp m at ≡ Some span → UpTo at v
      → ((q : Serial) → UpTo q v → IsSome (get unit_cmp m q) → UpTo q at) → has (interval_at at span) v ≡ false → labels_in m v ≡ None
  told_lacking m parted ordered at v span e up last lacks = unlabelled (get unit_cmp m) (labels_in m) v (means m ordered parted) (floor_lacks (get unit_cmp m) parted at v span e up last lacks)

  pub told_none : (m : BTreeMap Serial (Span M)) → AreParted (get unit_cmp m) → IsOrdered unit_cmp m → (v : Serial) → ((q : Serial) → UpTo q v → get unit_cmp m q ≡ None) → labels_in m v ≡ None
  told_none m parted ordered v none = unlabelled (get unit_cmp m) (labels_in m) v (means m ordered parted) (floor_none (get unit_cmp m) v none)

  -- ---- a block read from its end to its front

  pub step_down : (m : BTreeMap Serial (Span M)) → AreParted (get unit_cmp m) → IsOrdered unit_cmp m → (b : RawBlock) (n : ℕ) (at : Serial) (span : Span M) → get unit_cmp m at ≡ Some span → UpTo at (unit_numbered b n)
      → ((q : Serial) → UpTo q (unit_numbered b n) → IsSome (get unit_cmp m q) → UpTo q at)
      → (u : Serial) (x : M) → has_unit b u ≡ true → u.number ≤ n → labels_in m u ≡ Some x → ((has (interval_at at span) u ≡ true) × (span.label ≡ x)) ⊎ (u.number < at.number × (line_of at ≡ line_of u))
  step_down m parted ordered b n at span e up last u x here low labelled =
      let mean = means m ordered parted in
      let g = mean.given u x labelled in
      let i = in_true g.0 g.1 u g.3 in
      let j = block_true b u here in
      let s = line_numbered b n in
      let below = last g.0 (record { line = (let p = i.line in let q = j.line in omega arith); number = λ y. (let z = i.low in omega arith) }) (is_some_from (get unit_cmp m g.0) g.1 g.2) in
      let lines : line_of at ≡ line_of u = (let p = i.line in let q = j.line in let y = up.line in let z = below.line in omega arith) in
      elim (cases_lt u.number at.number) [
        | inl lt ↦ inr (lt, lines)
        | inr ge ↦
            let within = in_true_from g.0 g.1 at (record { line = i.line ∙ sym lines; low = below.number (let p = i.line in omega arith); high = (let z = i.high in omega arith) }) in
            let same = parted.apart g.0 at g.1 span g.2 e within in
            let spans : g.1 ≡ span = some_same g.1 span (sym g.2 ∙ ap (get unit_cmp m) same ∙ e) in
            let mine : has (interval_at at span) u ≡ true = subst (λ k. has (interval_at k span) u ≡ true) same (subst (λ (t : Span M). has (interval_at g.0 t) u ≡ true) spans g.3) in
            inl (mine, some_same_label span.label x (sym (mean.gives at u span e mine) ∙ labelled))
      ]
    where
      some_same_label : (p q : M) → Some p ≡ Some q → p ≡ q
      some_same_label p q f = cc (f)

  pub fails_unless : (passes : M → Bool) (o : Option M) → ((x : M) → o ≡ Some x → passes x ≡ true → ⊥) → option_map passes o ≢ Some true
  fails_unless passes None out e = cc (e)
  fails_unless passes (Some x) out e = out x refl (let same : passes x ≡ true = cc (e) in same)

  -- no span begins up to the number
  pub none_to_end : (m : BTreeMap Serial (Span M)) → AreParted (get unit_cmp m) → IsOrdered unit_cmp m → (b : RawBlock) (n : ℕ) → ((q : Serial) → UpTo q (unit_numbered b n) → get unit_cmp m q ≡ None)
      → (u : Serial) → has_unit b u ≡ true → u.number ≤ n → labels_in m u ≡ None
  none_to_end m parted ordered b n none u here low =
      let j = block_true b u here in
      let s = line_numbered b n in
      told_none m parted ordered u (λ q up. none q (record { line = (let x = up.line in let y = j.line in omega arith); number = λ e. (let k = up.number (let y = j.line in omega arith) in omega arith) }))

  -- a span that begins in the block, after one of its units, meets it
  pub meets_behind : (b : RawBlock) (at : Serial) (span : Span M) (u : Serial) (n : ℕ) → IsRange at.number span.last → has_unit b u ≡ true → u.number < at.number → line_of at ≡ line_of u → UpTo at (unit_numbered b n) → n ≤ b.last → meets b (interval_at at span) ≡ true
  meets_behind b at span u n range here lt lines up to =
      let j = block_true b u here in
      let s = line_numbered b n in
      let low = up.number (let y = j.line in omega arith) in
      has_meets b (interval_at at span) at (in_true_from at span at (record { line = refl; low = omega arith; high = range.1 })) (block_true_from b at (record { line = j.line ∙ sym lines; low = (let x = j.low in omega arith); high = omega arith }))

  pub starts_before_end : (b : RawBlock) (at : Serial) (span : Span M) → meets b (interval_at at span) ≡ true → at.number ≤ b.last
  starts_before_end b at span m = leb-true at.number b.last (meets-true b (interval_at at span) m).left
