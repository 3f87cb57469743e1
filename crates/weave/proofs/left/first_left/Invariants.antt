use Rattle.weave.specs.Left.{AreDoneBelow, count_at}
use Rattle.weave.proofs.left.first_left.Given as goal

abbrev pub invariant-loop-node : goal.invariant-loop-node
invariant-loop-node l = AreDoneBelow l.world (count_at l.scheme l.counts) l.among l.node-index
