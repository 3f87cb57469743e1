use Rattle.std.proofs.Common.{arith}
use Rattle.std.proofs.lemmas.Grind.{common_steps, elements}
use Rattle.node_state.proofs.seat.Seat.keep.Goals as goal

pub invariant_of-self-in_default-told : goal.invariant_of-self-in_default-told
invariant_of-self-in_default-told c = grind (arith, elements)

pub returns : goal.returns
returns c = grind (arith, common_steps)
