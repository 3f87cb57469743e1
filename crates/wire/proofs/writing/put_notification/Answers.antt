use Rattle.std.proofs.Common.{arith}
use Rattle.wire.proofs.writing.put_notification.Goals as goal

pub returns-clause-fields : goal.returns-clause-fields
returns-clause-fields c = grind arith
