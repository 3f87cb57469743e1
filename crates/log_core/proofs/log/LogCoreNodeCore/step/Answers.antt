use Rattle.safety.proofs.OneLog.OwnersInLog.{owned_by_initiator}
use Rattle.log_core.proofs.CoreReadings.{ends_after}
use Rattle.log_core.proofs.log.LogCoreNodeCore.step.Goals as goal

pub returns-clause-owned : goal.returns-clause-owned
returns-clause-owned c = owned_by_initiator c.args.self.now.scheme c.args.self.now.journal c.args.input.now

pub returns-clause-ends_stay : goal.returns-clause-ends_stay
returns-clause-ends_stay c =
    ends_after c.self.inside.tables.scheme c.self.inside.tables c.take.new.self c.args.self.now c.self.view_is c.take.ensures.scheme_is c.args.input.now c.take.result c.take.ensures.taken.journal_is
