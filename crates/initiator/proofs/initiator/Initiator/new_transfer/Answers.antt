use Rattle.std.proofs.Common.{◌≡◌, ◌+◌, Some, subst}
use Rattle.std.specs.Result.{IfOk}
use Rattle.status.specs.Id.{id_at}
use Rattle.initiator.proofs.initiator.Initiator.new_transfer.Goals as goal

pub returns-clause-id : goal.returns-clause-id
returns-clause-id c = subst (λ i. IfOk c.propose_check.result (λ new_transfer. id_at i.code (i.last + 1) ≡ Some new_transfer.id)) c.self.view_is c.propose_check.ensures.id
