use Rattle.std.proofs.Common.{◌≡◌, true, false, true≢false, Some, None, IsSome, sym, ap, subst, ◌∙◌, arith, inl, inr}
use Rattle.std.specs.BTreeMap as tree
use Rattle.std.specs.Option.{option_map}
use Rattle.std.proofs.lemmas.Bool.{cases_lt}
use Rattle.units.specs.Cutting.{meets}
use Rattle.units.specs.Keys.{unit_cmp, unit_numbered}
use Rattle.units.specs.Spans.{interval_at, labels_in}
use Rattle.units.specs.declared.block.Unit.{Unit as Serial}
use Rattle.units.proofs.Cutting.{has_meets, meeting_unit}
use Rattle.units.proofs.SpanReads.{told_some, step_down, fails_unless, none_to_end, meets_behind, starts_before_end}
use Rattle.units.proofs.UnitLines.{UpTo, gt_false, gt_false_from, lt_false}
use Rattle.units.proofs.Walking.{number_of}
use Rattle.units.proofs.unit_map.reading.some_passes.Goals as goal

pub returns-in_default-clause-none : goal.returns-in_default-clause-none
returns-in_default-clause-none g c passes gives u here =
    let b = c.args.block.now.raw in
    let n = c.loop-at.number in
    elim (cases_lt n u.number) [
      | inl lt ↦ c.loop-at.invariant.so_far passes gives u here lt
      | inr ge ↦ fails_unless passes (labels_in c.args.spans.now u) (λ x e p.
          let none = none_to_end c.args.spans.now c.requires.parted c.requires.ordered b n (λ q up. c.in_default.ensures.none q (subst (λ v. tree.Range.IsLeBy unit_cmp q v) (sym c.unit-unit.ensures) (gt_false_from q (unit_numbered b n) up))) u here ge in
          let clash : None ≡ Some x = sym none ∙ e in cc (clash))
    ]

pub returns-then-not-meets-clause-none : goal.returns-then-not-meets-clause-none
returns-then-not-meets-clause-none g c passes gives u here =
    let b = c.args.block.now.raw in
    let n = c.loop-at.number in
    let at = c.in-Some.at in
    let span = c.in-Some.span in
    let up = subst (λ v. UpTo at v) c.unit-unit.ensures (gt_false at c.unit-unit.result c.in-Some.ensures.found.1) in
    let last : (q : Serial) → UpTo q (unit_numbered b n) → IsSome (tree.get unit_cmp c.args.spans.now q) → UpTo q at = λ q below some. lt_false at q (c.in-Some.ensures.last q (gt_false_from q c.unit-unit.result (subst (λ v. UpTo q v) (sym c.unit-unit.ensures) below)) some) in
    let apart : meets b (interval_at at span) ≡ false = ap (meets b) (sym c.interval.ensures) ∙ sym c.meets.ensures ∙ c.if-not-meets.true in
    elim (cases_lt n u.number) [
      | inl lt ↦ c.loop-at.invariant.so_far passes gives u here lt
      | inr ge ↦ fails_unless passes (labels_in c.args.spans.now u) (λ x e p. elim (step_down c.args.spans.now c.requires.parted c.requires.ordered b n at span c.in-Some.ensures.found.0 up last u x here ge e) [
        | inl mine ↦ true≢false (sym (has_meets b (interval_at at span) u mine.0 here) ∙ apart)
        | inr behind ↦ true≢false (sym (meets_behind b at span u n (c.requires.parted.ranges at span c.in-Some.ensures.found.0) here behind.0 behind.1 up c.loop-at.invariant.to) ∙ apart)
      ])
    ]

pub returns-then-test-clause-some : goal.returns-then-test-clause-some
returns-then-test-clause-some g c passes gives =
    let b = c.args.block.now.raw in
    let at = c.in-Some.at in
    let span = c.in-Some.span in
    let met : meets b (interval_at at span) ≡ true = ap (meets b) (sym c.interval.ensures) ∙ sym c.meets.ensures ∙ c.if-not-meets.false in
    let range = c.requires.parted.ranges at span c.in-Some.ensures.found.0 in
    let u = meeting_unit b (interval_at at span) c.args.block.now.in_range.1 range.1 met in
    let passed : passes span.label ≡ true = sym (gives span.label c.test.result c.test.ensures) ∙ c.if-test.true in
    (u.0, u.2, ap (option_map passes) (told_some c.args.spans.now c.requires.parted c.requires.ordered at span c.in-Some.ensures.found.0 u.0 u.1) ∙ ap Some passed)

pub returns-then-at-block-clause-none : goal.returns-then-at-block-clause-none
returns-then-at-block-clause-none g c passes gives u here =
    let b = c.args.block.now.raw in
    let n = c.loop-at.number in
    let at = c.in-Some.at in
    let span = c.in-Some.span in
    let up = subst (λ v. UpTo at v) c.unit-unit.ensures (gt_false at c.unit-unit.result c.in-Some.ensures.found.1) in
    let last : (q : Serial) → UpTo q (unit_numbered b n) → IsSome (tree.get unit_cmp c.args.spans.now q) → UpTo q at = λ q below some. lt_false at q (c.in-Some.ensures.last q (gt_false_from q c.unit-unit.result (subst (λ v. UpTo q v) (sym c.unit-unit.ensures) below)) some) in
    let failed : passes span.label ≡ false = sym (gives span.label c.test.result c.test.ensures) ∙ c.if-test.false in
    let low = (number_of b u here).0 in
    elim (cases_lt n u.number) [
      | inl lt ↦ c.loop-at.invariant.so_far passes gives u here lt
      | inr ge ↦ fails_unless passes (labels_in c.args.spans.now u) (λ x e p. elim (step_down c.args.spans.now c.requires.parted c.requires.ordered b n at span c.in-Some.ensures.found.0 up last u x here ge e) [
        | inl mine ↦ true≢false (sym p ∙ ap passes (sym mine.1) ∙ failed)
        | inr behind ↦ (let lt = behind.0 in absurd (omega arith))
      ])
    ]

pub loop-at-preserved : goal.loop-at-preserved
loop-at-preserved g c =
    let b = c.args.block.now.raw in
    let n = c.loop-at.number in
    let at = c.in-Some.at in
    let span = c.in-Some.span in
    let up = subst (λ v. UpTo at v) c.unit-unit.ensures (gt_false at c.unit-unit.result c.in-Some.ensures.found.1) in
    let last : (q : Serial) → UpTo q (unit_numbered b n) → IsSome (tree.get unit_cmp c.args.spans.now q) → UpTo q at = λ q below some. lt_false at q (c.in-Some.ensures.last q (gt_false_from q c.unit-unit.result (subst (λ v. UpTo q v) (sym c.unit-unit.ensures) below)) some) in
    let met : meets b (interval_at at span) ≡ true = ap (meets b) (sym c.interval.ensures) ∙ sym c.meets.ensures ∙ c.if-not-meets.false in
    let end = starts_before_end b at span met in
    record {
      from = omega arith;
      to = omega arith;
      so_far = λ passes gives u here lt.
          let failed : passes span.label ≡ false = sym (gives span.label c.test.result c.test.ensures) ∙ c.if-test.false in
          elim (cases_lt n u.number) [
            | inl far ↦ c.loop-at.invariant.so_far passes gives u here far
            | inr ge ↦ fails_unless passes (labels_in c.args.spans.now u) (λ x e p. elim (step_down c.args.spans.now c.requires.parted c.requires.ordered b n at span c.in-Some.ensures.found.0 up last u x here ge e) [
              | inl mine ↦ true≢false (sym p ∙ ap passes (sym mine.1) ∙ failed)
              | inr behind ↦ (let less = behind.0 in absurd (omega arith))
            ])
          ];
    }
