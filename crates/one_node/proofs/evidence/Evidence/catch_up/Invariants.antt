use Rattle.one_node.specs.Operating.{Follows}
use Rattle.one_node.proofs.evidence.Evidence.catch_up.Given as goal

abbrev pub invariant-loop : goal.invariant-loop
invariant-loop g l = Follows l.fn.self l.self
