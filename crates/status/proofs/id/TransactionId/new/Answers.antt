use Rattle.std.proofs.Common.{sym}
use Rattle.status.proofs.Ids.{id_at-some}
use Rattle.status.proofs.id.TransactionId.new.Goals as goal

pub returns-then-contains-clause-value : goal.returns-then-contains-clause-value
returns-then-contains-clause-value c = sym (id_at-some _)
