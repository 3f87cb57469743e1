use Rattle.std.proofs.Common.{ap, arith}
use Rattle.std.proofs.lemmas.List.Sums.{sum_by_more_le}
use Rattle.units.specs.Canonical.{interval_of}
use Rattle.units.specs.Intervals.{size}
use Rattle.units.specs.declared.block.Block.{Block}
use Rattle.accounts.proofs.Parts.{units_bound}
use Rattle.accounts.proofs.apart.count.Goals as goal

pub overflow_add-count : goal.overflow_add-count
overflow_add-count c =
    let blocks = c.args.blocks.now in
    let b = c.block-item.result in
    let bound = units_bound blocks c.requires in
    let so_far = sum_by_more_le (λ (b : Block). size (interval_of b)) blocks c.loop-block.block-index b c.loop-block-test.true in
    let here = ap (λ (b : Block). size (interval_of b)) c.block-item.is in
    let counted = c.count-count.ensures in
    omega (arith, bound, so_far, here, counted, c.loop-block.invariant)
