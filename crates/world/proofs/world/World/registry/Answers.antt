use Rattle.std.proofs.Common.{arith}
use Rattle.std.proofs.lemmas.Grind.{common_steps}
use Rattle.world.proofs.world.World.registry.Goals as goal

pub returns-in-Registry-clause-core : goal.returns-in-Registry-clause-core
returns-in-Registry-clause-core c = grind (arith, common_steps)
