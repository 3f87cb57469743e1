use Rattle.std.proofs.Common.{◌≡◌, true≢false, Some, sym, subst, ◌∙◌}
use Rattle.std.specs.BTreeMap as tree
use Rattle.units.specs.Canonical.{GoesOn}
use Rattle.units.specs.Keys.{unit_cmp}
use Rattle.units.specs.Spans.{interval_at, IsSeam}
use Rattle.units.proofs.SpanJoins.{joined_parted, joined_mean, joined_keys, joined_seams, not_a_seam, unit_before}
use Rattle.units.proofs.SpanPuts.{is_some_from}
use Rattle.units.proofs.UnitLines.{gt_false, gt_false_from, lt_false}
use Rattle.units.proofs.unit_map.joining.join.Goals as goal

pub returns-then-goes_on-clause-parted : goal.returns-then-goes_on-clause-parted
returns-then-goes_on-clause-parted g c =
    let held = tree.get unit_cmp c.args.spans.now in
    let there : held c.args.unit ≡ Some c.args.right = c.requires.right in
    let goes = subst (λ i. GoesOn i (interval_at c.args.unit c.args.right)) c.interval.ensures (subst (λ i. GoesOn c.interval.result i) c.interval-in-Some.ensures (c.goes_on.ensures.0 c.if-goes_on.true)) in
    joined_parted c.in-Some.at c.args.unit c.in-Some.left c.args.right held (tree.get unit_cmp c.overwrite.new.spans) (tree.get unit_cmp c.remove.new.self) c.requires.parted c.in-Some.ensures.found.0 there goes
    (c.overwrite.ensures.puts (is_some_from (held c.in-Some.at) c.in-Some.left c.in-Some.ensures.found.0)) c.remove.ensures.updates.0

pub returns-then-goes_on-clause-means : goal.returns-then-goes_on-clause-means
returns-then-goes_on-clause-means g c =
    let held = tree.get unit_cmp c.args.spans.now in
    let there : held c.args.unit ≡ Some c.args.right = c.requires.right in
    let goes = subst (λ i. GoesOn i (interval_at c.args.unit c.args.right)) c.interval.ensures (subst (λ i. GoesOn c.interval.result i) c.interval-in-Some.ensures (c.goes_on.ensures.0 c.if-goes_on.true)) in
    joined_mean c.in-Some.at c.args.unit c.in-Some.left c.args.right held (tree.get unit_cmp c.overwrite.new.spans) (tree.get unit_cmp c.remove.new.self) c.requires.parted c.in-Some.ensures.found.0 there goes
    (c.overwrite.ensures.puts (is_some_from (held c.in-Some.at) c.in-Some.left c.in-Some.ensures.found.0)) c.remove.ensures.updates.0

pub returns-then-goes_on-clause-seams : goal.returns-then-goes_on-clause-seams
returns-then-goes_on-clause-seams g c =
    let held = tree.get unit_cmp c.args.spans.now in
    let there : held c.args.unit ≡ Some c.args.right = c.requires.right in
    let goes = subst (λ i. GoesOn i (interval_at c.args.unit c.args.right)) c.interval.ensures (subst (λ i. GoesOn c.interval.result i) c.interval-in-Some.ensures (c.goes_on.ensures.0 c.if-goes_on.true)) in
    joined_seams c.in-Some.at c.args.unit c.in-Some.left c.args.right held (tree.get unit_cmp c.overwrite.new.spans) (tree.get unit_cmp c.remove.new.self) c.requires.parted c.in-Some.ensures.found.0 there goes
    (c.overwrite.ensures.puts (is_some_from (held c.in-Some.at) c.in-Some.left c.in-Some.ensures.found.0)) c.remove.ensures.updates.0

pub returns-then-goes_on-clause-keys : goal.returns-then-goes_on-clause-keys
returns-then-goes_on-clause-keys g c =
    let held = tree.get unit_cmp c.args.spans.now in
    let there : held c.args.unit ≡ Some c.args.right = c.requires.right in
    let goes = subst (λ i. GoesOn i (interval_at c.args.unit c.args.right)) c.interval.ensures (subst (λ i. GoesOn c.interval.result i) c.interval-in-Some.ensures (c.goes_on.ensures.0 c.if-goes_on.true)) in
    joined_keys c.in-Some.at c.args.unit c.in-Some.left c.args.right held (tree.get unit_cmp c.overwrite.new.spans) (tree.get unit_cmp c.remove.new.self) c.requires.parted c.in-Some.ensures.found.0 there goes
    (c.overwrite.ensures.puts (is_some_from (held c.in-Some.at) c.in-Some.left c.in-Some.ensures.found.0)) c.remove.ensures.updates.0

pub returns-else-goes_on-clause-seams : goal.returns-else-goes_on-clause-seams
returns-else-goes_on-clause-seams g c q seam =
    let held = tree.get unit_cmp c.args.spans.now in
    let there : held c.args.unit ≡ Some c.args.right = c.requires.right in (
      seam,
      λ same. not_a_seam held c.requires.parted c.in-Some.at c.args.unit c.in-Some.left c.args.right c.requires.first c.in-Some.ensures.found.0 there
          (gt_false c.in-Some.at (unit_before c.args.unit) c.in-Some.ensures.found.1)
          (λ p up some. lt_false c.in-Some.at p (c.in-Some.ensures.last p (gt_false_from p (unit_before c.args.unit) up) some))
          (λ goes. true≢false (sym (c.goes_on.ensures.1 (subst (λ i. GoesOn c.interval.result i) (sym c.interval-in-Some.ensures) (subst (λ i. GoesOn i (interval_at c.args.unit c.args.right)) (sym c.interval.ensures) goes))) ∙ c.if-goes_on.false))
          (subst (IsSeam held) (sym same) seam),
    )
