use Rattle.std.proofs.Common.{arith}
use Rattle.std.proofs.lemmas.Grind.{common_steps}
use Rattle.weave.proofs.following.follow.Goals as goal

pub returns-clause-follows : goal.returns-clause-follows
returns-clause-follows g c = grind (arith, common_steps)
