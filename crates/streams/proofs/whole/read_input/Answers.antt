use Rattle.std.proofs.Common.{arith}
use Rattle.std.proofs.lemmas.Grind.{common_steps}
use Rattle.streams.proofs.whole.read_input.Goals as goal

pub returns-then-len-gt-LONGEST_INPUT-clause-ok : goal.returns-then-len-gt-LONGEST_INPUT-clause-ok
returns-then-len-gt-LONGEST_INPUT-clause-ok g c = grind (arith, common_steps)
