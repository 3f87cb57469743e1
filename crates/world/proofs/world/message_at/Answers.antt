use Rattle.std.proofs.Common.{arith}
use Rattle.std.proofs.lemmas.Grind.{elements}
use Rattle.world.proofs.world.message_at.Goals as goal

pub returns-in_err-posted : goal.returns-in_err-posted
returns-in_err-posted c = grind (arith, elements)

pub returns : goal.returns
returns c = grind (arith, elements)
