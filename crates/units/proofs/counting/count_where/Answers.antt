use Rattle.std.proofs.Common.{◌≡◌, true, false, sym, ap, subst, ◌∙◌, arith}
use Rattle.std.specs.List.{sum_by}
use Rattle.std.proofs.lemmas.Bool.{cond-true, cond-false}
use Rattle.std.proofs.lemmas.List.Sums.{sum_by-cons}
use Rattle.units.specs.Intervals.{size, AreKept}
use Rattle.units.specs.Spans.{interval_at, intervals_of}
use Rattle.units.proofs.CountingUnits.{weight, passing_labels, sizes_bound}
use Rattle.units.proofs.counting.count_where.Goals as goal

pub overflow_sub-count : goal.overflow_sub-count
overflow_sub-count g c =
    let kept = subst (λ es. AreKept (intervals_of es)) c.in-Some.ensures.steps c.loop-unit.invariant.kept in
    let range = kept.0 in
    omega arith

pub overflow_add-count : goal.overflow_add-count
overflow_add-count g c =
    let kept = subst (λ es. AreKept (intervals_of es)) c.in-Some.ensures.steps c.loop-unit.invariant.kept in
    let range = kept.0 in
    omega arith

pub overflow_add-count-then-test : goal.overflow_add-count-then-test
overflow_add-count-then-test g c =
    let kept = subst (λ es. AreKept (intervals_of es)) c.in-Some.ensures.steps c.loop-unit.invariant.kept in
    let range = kept.0 in
    let i = interval_at c.in-Some.unit.now c.in-Some.span.now in
    let split = ap (λ es. sum_by size (intervals_of es)) c.in-Some.ensures.steps in
    let more = sum_by-cons size i (intervals_of c.next.new.self) in
    let all = sizes_bound (intervals_of c.args.spans.now.entries) c.requires.kept in
    let fits = c.loop-unit.invariant.fits in
    omega arith

pub loop-unit-preserved-then-test : goal.loop-unit-preserved-then-test
loop-unit-preserved-then-test g c =
    let kept = subst (λ es. AreKept (intervals_of es)) c.in-Some.ensures.steps c.loop-unit.invariant.kept in
    let range = kept.0 in
    let i = interval_at c.in-Some.unit.now c.in-Some.span.now in
    let split = ap (λ es. sum_by size (intervals_of es)) c.in-Some.ensures.steps in
    let more = sum_by-cons size i (intervals_of c.next.new.self) in
    let fits = c.loop-unit.invariant.fits in
    record {
      fits = omega arith;
      counted = λ passes means.
          let passed : passes i.label ≡ true = sym (means i.label c.test.result c.test.ensures) ∙ c.if-test.true in
          let counted = cond-true (passes i.label) (size i) 0 passed in
          let split' = ap (λ es. sum_by (weight passes) (intervals_of es)) c.in-Some.ensures.steps in
          let more' = sum_by-cons (weight passes) i (intervals_of c.next.new.self) in
          omega (arith, c.loop-unit.invariant.counted passes means);
      kept = kept.2;
    }

pub loop-unit-preserved : goal.loop-unit-preserved
loop-unit-preserved g c =
    let kept = subst (λ es. AreKept (intervals_of es)) c.in-Some.ensures.steps c.loop-unit.invariant.kept in
    let i = interval_at c.in-Some.unit.now c.in-Some.span.now in
    let split = ap (λ es. sum_by size (intervals_of es)) c.in-Some.ensures.steps in
    let more = sum_by-cons size i (intervals_of c.next.new.self) in
    let fits = c.loop-unit.invariant.fits in
    record {
      fits = omega arith;
      counted = λ passes means.
          let failed : passes i.label ≡ false = sym (means i.label c.test.result c.test.ensures) ∙ c.if-test.false in
          let skipped = cond-false (passes i.label) (size i) 0 failed in
          let split' = ap (λ es. sum_by (weight passes) (intervals_of es)) c.in-Some.ensures.steps in
          let more' = sum_by-cons (weight passes) i (intervals_of c.next.new.self) in
          omega (arith, c.loop-unit.invariant.counted passes means);
      kept = kept.2;
    }

pub returns : goal.returns
returns g c passes means =
    let is = intervals_of c.args.spans.now.entries in
    let none : sum_by (weight passes) (intervals_of c.loop-unit.unit-iterator) ≡ 0 = ap (λ es. sum_by (weight passes) (intervals_of es)) c.in-None.ensures.steps.0 in
    let all = c.loop-unit.invariant.counted passes means in
    let count : c.loop-unit.count ≡ sum_by (weight passes) is = omega arith in
    count ∙ sym (passing_labels passes is c.requires.kept)
