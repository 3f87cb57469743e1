use Rattle.std.proofs.Common.{arith}
use Rattle.std.proofs.lemmas.Grind.{elements}
use Rattle.tags.proofs.key_file.node_of.Goals as goal

pub returns-clause-some : goal.returns-clause-some
returns-clause-some c = grind (arith, elements)
