use Rattle.std.proofs.Common.{arith}
use Rattle.std.proofs.lemmas.Grind.{elements}
use Rattle.sessions.proofs.running.run_all.Goals as goal

pub map_vec-requires-after_bounds : goal.map_vec-requires-after_bounds
map_vec-requires-after_bounds g c κs within = grind arith

pub returns-clause-seats : goal.returns-clause-seats
returns-clause-seats g c = grind (arith, elements)

pub returns-clause-taken : goal.returns-clause-taken
returns-clause-taken g c = grind (arith, elements)

pub returns-clause-none : goal.returns-clause-none
returns-clause-none g c = grind (arith, elements)
