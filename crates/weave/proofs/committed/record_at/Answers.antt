use Rattle.std.proofs.Common.{arith}
use Rattle.std.proofs.lemmas.Grind.{elements}
use Rattle.weave.proofs.committed.record_at.Goals as goal

pub returns : goal.returns
returns c = grind (arith, elements)
