use Rattle.std.proofs.Common.{arith}
use Rattle.std.proofs.lemmas.Grind.{common_steps}
use Rattle.wire.proofs.codes.ascends.Goals as goal

pub returns-then-code-least : goal.returns-then-code-least
returns-then-code-least c = grind (arith, common_steps)

pub loop-code-preserved : goal.loop-code-preserved
loop-code-preserved c = grind (arith, common_steps)

pub returns : goal.returns
returns c = grind (arith, common_steps)
