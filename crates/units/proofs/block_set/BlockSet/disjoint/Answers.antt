use Rattle.std.proofs.Common.{IsSome, subst}
use Rattle.std.specs.FinMap.{get}
use Rattle.units.proofs.BlockLists.{covers_at}
use Rattle.units.proofs.block_set.BlockSet.disjoint.Goals as goal

pub returns-then-not-has_none_of-clause-some : goal.returns-then-not-has_none_of-clause-some
returns-then-not-has_none_of-clause-some c =
    let one = c.if-not-has_none_of.ensures.some in
    (one.0, covers_at c.args.blocks.now c.loop-block.block-index c.block-item.result one.0 c.loop-block-test.true c.block-item.is one.1, subst (λ m. IsSome (get m one.0)) c.self.view_is one.2)
