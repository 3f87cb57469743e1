use Rattle.std.proofs.Common.{IsSome, subst}
use Rattle.std.specs.FinMap.{get}
use Rattle.units.proofs.block_set.BlockSet.add.Goals as goal

pub returns-then-not-has_none_of-clause-there : goal.returns-then-not-has_none_of-clause-there
returns-then-not-has_none_of-clause-there c e =
    let one = c.if-not-has_none_of.ensures.some in
    (one.0, one.1, subst (λ m. IsSome (get m one.0)) c.self.view_is one.2)
