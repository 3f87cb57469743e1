use Rattle.std.proofs.Common.{arith}
use Rattle.std.proofs.lemmas.Grind.{elements}
use Rattle.weave.proofs.left.first_left.Goals as goal

pub returns-then-place-record_count-clause-some : goal.returns-then-place-record_count-clause-some
returns-then-place-record_count-clause-some c = grind (arith, elements)

pub loop-node-preserved : goal.loop-node-preserved
loop-node-preserved c = grind (arith, elements)
