use Rattle.std.proofs.Common.{arith}
use Rattle.std.proofs.lemmas.Grind.{common_steps}
use Rattle.exchanges.proofs.replying.serve_line.Goals as goal

pub returns-in-Err-clause-serves : goal.returns-in-Err-clause-serves
returns-in-Err-clause-serves g c = grind (arith, common_steps)

pub returns-then-is_stopped-clause-serves : goal.returns-then-is_stopped-clause-serves
returns-then-is_stopped-clause-serves g c = grind (arith, common_steps)
