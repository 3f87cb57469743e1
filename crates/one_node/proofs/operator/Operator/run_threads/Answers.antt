use Rattle.std.proofs.Common.{arith}
use Rattle.one_node.proofs.operator.Operator.run_threads.Goals as goal

pub join_mut-threads-requires-after_bounds : goal.join_mut-threads-requires-after_bounds
join_mut-threads-requires-after_bounds g c κs within = grind arith
