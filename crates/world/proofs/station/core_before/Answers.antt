use Rattle.std.proofs.Common.{arith}
use Rattle.std.proofs.lemmas.Grind.{elements}
use Rattle.world.proofs.station.core_before.Goals as goal

pub unreachable-requires : goal.unreachable-requires
unreachable-requires c = grind (arith, elements)
