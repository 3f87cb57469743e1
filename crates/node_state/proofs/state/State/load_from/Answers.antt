use Rattle.std.proofs.Common.{arith}
use Rattle.std.proofs.lemmas.Grind.{elements}
use Rattle.node_state.proofs.state.State.load_from.Goals as goal

pub returns-in_err-read_on-clause-loaded : goal.returns-in_err-read_on-clause-loaded
returns-in_err-read_on-clause-loaded g c = grind arith

pub loop-core-preserved : goal.loop-core-preserved
loop-core-preserved g c = grind arith

pub returns-clause-loaded : goal.returns-clause-loaded
returns-clause-loaded g c = grind (arith, elements)
