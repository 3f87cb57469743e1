use Rattle.std.proofs.Common.{arith}
use Rattle.log_core.proofs.tables.Tables.move_transfers.Goals as goal

pub returns-in_ok-begin-in-Begin-clause-ok : goal.returns-in_ok-begin-in-Begin-clause-ok
returns-in_ok-begin-in-Begin-clause-ok c = grind arith
