use Rattle.std.proofs.Common.{◌≡◌, true, true≢false, Some, None, sym, ap, subst, ◌∙◌, arith, inl, inr}
use Rattle.std.specs.Option.{option_map}
use Rattle.std.proofs.lemmas.Bool.{cases_lt}
use Rattle.units.specs.Intervals.{has}
use Rattle.units.specs.Spans.{labels_in}
use Rattle.units.proofs.Walking.{unit_at, block_has, number_of, has_between, last_above}
use Rattle.units.proofs.unit_map.reading.all_pass.Goals as goal

pub returns-in_default-clause-some : goal.returns-in_default-clause-some
returns-in_default-clause-some g c passes gives =
    let b = c.args.block.now.raw in
    let n = c.loop-interval.number in
    let none = subst (λ u. labels_in c.args.spans.now u ≡ None) c.unit-unit.ensures c.in_default.ensures.none in
    (unit_at b n, block_has b n c.loop-interval.invariant.from c.loop-interval.invariant.to, λ e. let clash : None ≡ Some true = ap (option_map passes) (sym none) ∙ e in cc (clash))

pub returns-then-not-test-clause-some : goal.returns-then-not-test-clause-some
returns-then-not-test-clause-some g c passes gives =
    let b = c.args.block.now.raw in
    let n = c.loop-interval.number in
    let at = unit_at b n in
    let here = subst (λ u. has c.in-Some.interval u ≡ true) c.unit-unit.ensures c.in-Some.ensures.some.0 in
    let label = c.in-Some.ensures.some.1 at here in
    let told = gives c.in-Some.interval.label c.test.result c.test.ensures in (
      at,
      block_has b n c.loop-interval.invariant.from c.loop-interval.invariant.to,
      λ e.
          let some : Some (passes c.in-Some.interval.label) ≡ Some true = ap (option_map passes) (sym label) ∙ e in
          let yes' : passes c.in-Some.interval.label ≡ true = cc (some) in
          true≢false (sym yes' ∙ sym told ∙ c.if-not-test.true),
    )

pub returns-then-block-interval-clause-all : goal.returns-then-block-interval-clause-all
returns-then-block-interval-clause-all g c passes gives u h =
    let b = c.args.block.now.raw in
    let n = c.loop-interval.number in
    let here = subst (λ v. has c.in-Some.interval v ≡ true) c.unit-unit.ensures c.in-Some.ensures.some.0 in
    let told = gives c.in-Some.interval.label c.test.result c.test.ensures in
    let high = (number_of b u h).1 in
    elim (cases_lt u.number n) [
      | inl lt ↦ c.loop-interval.invariant.so_far passes gives u h lt
      | inr ge ↦ ap (option_map passes) (c.in-Some.ensures.some.1 u (has_between b c.in-Some.interval n u here h ge (omega arith))) ∙ ap Some (sym told ∙ c.if-not-test.false)
    ]

pub loop-interval-smaller : goal.loop-interval-smaller
loop-interval-smaller g c =
    let b = c.args.block.now.raw in
    let n = c.loop-interval.number in
    let here = subst (λ v. has c.in-Some.interval v ≡ true) c.unit-unit.ensures c.in-Some.ensures.some.0 in
    let low = last_above b c.in-Some.interval n here in
    omega arith

pub loop-interval-preserved : goal.loop-interval-preserved
loop-interval-preserved g c =
    let b = c.args.block.now.raw in
    let n = c.loop-interval.number in
    let here = subst (λ v. has c.in-Some.interval v ≡ true) c.unit-unit.ensures c.in-Some.ensures.some.0 in
    let low = last_above b c.in-Some.interval n here in
    record {
      from = let from = c.loop-interval.invariant.from in omega arith;
      to = omega arith;
      so_far = λ passes gives u h below.
          let told = gives c.in-Some.interval.label c.test.result c.test.ensures in
          elim (cases_lt u.number n) [
            | inl lt ↦ c.loop-interval.invariant.so_far passes gives u h lt
            | inr ge ↦ ap (option_map passes) (c.in-Some.ensures.some.1 u (has_between b c.in-Some.interval n u here h ge (omega arith))) ∙ ap Some (sym told ∙ c.if-not-test.false)
          ];
    }
