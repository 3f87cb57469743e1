use Rattle.std.proofs.Common.{arith}
use Rattle.std.proofs.lemmas.Grind.{common_steps}
use Rattle.log_core.proofs.moving.leave.Goals as goal

pub returns-clause-waiting : goal.returns-clause-waiting
returns-clause-waiting c = grind (arith, common_steps)
