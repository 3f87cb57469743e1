use Rattle.std.proofs.Common.{arith}
use Rattle.std.proofs.lemmas.Grind.{common_steps, elements}
use Rattle.node_state.proofs.state.State.commit.Goals as goal

pub overflow_add-start : goal.overflow_add-start
overflow_add-start g c = grind (arith, elements)

pub slice_bounds-append-end : goal.slice_bounds-append-end
slice_bounds-append-end g c = grind (arith, common_steps)

pub mark_committed-requires : goal.mark_committed-requires
mark_committed-requires g c = grind (arith, common_steps)

pub returns-in-Ok-clause-some : goal.returns-in-Ok-clause-some
returns-in-Ok-clause-some g c = grind (arith, common_steps)

pub returns-in-Err-clause-some : goal.returns-in-Err-clause-some
returns-in-Err-clause-some g c = grind (arith, common_steps)
