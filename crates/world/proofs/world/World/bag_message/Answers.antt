use Rattle.std.proofs.Common.{arith}
use Rattle.std.proofs.lemmas.Grind.{elements}
use Rattle.world.proofs.world.World.bag_message.Goals as goal

pub returns : goal.returns
returns c = grind (arith, elements)
