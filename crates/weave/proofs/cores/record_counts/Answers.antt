use Rattle.std.proofs.Common.{arith, ◌++◌, ◌∷◌, [], ℕ, length, ap, ◌∙◌}
use Rattle.std.proofs.lemmas.Grind.{common_steps}
use Rattle.world.specs.Cores as node_cores
use Rattle.world.specs.declared.any_core.Core.{Core}
use Rattle.weave.proofs.Lists.{images_more}
use Rattle.weave.proofs.cores.record_counts.Goals as goal

pub loop-core-preserved : goal.loop-core-preserved
loop-core-preserved c =
    c.in_ok-push.ensures.items
    ∙ ap (λ (n : ℕ). c.loop-core.counts.items ++ n ∷ []) c.records.ensures
    ∙ images_more (λ (core : Core). length (node_cores.journal_of core)) c.loop-core.counts.items c.args.cores.now c.loop-core.core-index c.core-item.result c.loop-core-test.true c.core-item.is c.loop-core.invariant

pub returns-in_err-push : goal.returns-in_err-push
returns-in_err-push c = grind arith

pub returns : goal.returns
returns c = grind (arith, common_steps)
