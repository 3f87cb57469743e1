use Rattle.acquirer.proofs.EntriesInOrder.{least_id}
use Rattle.acquirer.proofs.awaited.start_of.Goals as goal

pub returns-clause-least : goal.returns-clause-least
returns-clause-least c t = least_id t
