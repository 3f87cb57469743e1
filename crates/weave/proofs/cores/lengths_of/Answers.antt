use Rattle.std.proofs.Common.{arith, Bor, List, length, ◌∙◌}
use Rattle.std.proofs.lemmas.Grind.{common_steps}
use Rattle.wire.specs.declared.input.Input.{Input}
use Rattle.weave.proofs.Lists.{images_more}
use Rattle.weave.proofs.cores.lengths_of.Goals as goal

pub loop-journal-preserved : goal.loop-journal-preserved
loop-journal-preserved c =
    c.in_ok-push.ensures.items
    ∙ images_more (λ (j : Bor (List Input)). length j.now) c.loop-journal.lengths.items c.args.journals.now c.loop-journal.journal-index c.journal-item.result c.loop-journal-test.true c.journal-item.is c.loop-journal.invariant

pub returns-in_err-push : goal.returns-in_err-push
returns-in_err-push c = grind (arith, common_steps)

pub returns : goal.returns
returns c = grind (arith, common_steps)
