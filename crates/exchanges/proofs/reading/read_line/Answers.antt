use Rattle.std.proofs.Common.{arith}
use Rattle.std.proofs.lemmas.Grind.{common_steps}
use Rattle.exchanges.proofs.reading.read_line.Goals as goal

pub returns-then-byte-eq10 : goal.returns-then-byte-eq10
returns-then-byte-eq10 g c = grind (arith, common_steps)

pub loop-byte-preserved-in-Ok : goal.loop-byte-preserved-in-Ok
loop-byte-preserved-in-Ok g c = grind (arith, common_steps)
