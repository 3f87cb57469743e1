use Rattle.std.proofs.Common.{arith}
use Rattle.std.proofs.lemmas.Grind.{common_steps}
use Rattle.sessions.proofs.running.new_seats.Goals as goal

pub loop-made-preserved : goal.loop-made-preserved
loop-made-preserved c = grind (arith, common_steps)
