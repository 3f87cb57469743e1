use Rattle.std.proofs.Common.{◌≡◌, take}
use Rattle.node_state.proofs.state.copies.Given as goal

abbrev pub invariant-loop-input : goal.invariant-loop-input
invariant-loop-input l = l.all.items ≡ take l.input-index l.inputs
