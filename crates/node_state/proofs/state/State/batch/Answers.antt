use Rattle.std.proofs.Common.{arith}
use Rattle.std.proofs.lemmas.Grind.{common_steps}
use Rattle.node_state.proofs.state.State.batch.Goals as goal

pub overflow_add-start : goal.overflow_add-start
overflow_add-start g c = grind (arith, common_steps)

pub slice_bounds-copies-end : goal.slice_bounds-copies-end
slice_bounds-copies-end g c = grind (arith, common_steps)

pub returns : goal.returns
returns g c = grind (arith, common_steps)
