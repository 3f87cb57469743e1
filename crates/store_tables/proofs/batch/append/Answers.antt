use Rattle.std.proofs.Common.{arith}
use Rattle.store_tables.proofs.batch.append.Goals as goal

pub returns-clause-refused : goal.returns-clause-refused
returns-clause-refused g c = grind arith

pub returns-clause-full : goal.returns-clause-full
returns-clause-full g c = grind arith
