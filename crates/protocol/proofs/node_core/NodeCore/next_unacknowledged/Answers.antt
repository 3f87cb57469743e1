use Rattle.protocol.proofs.RecordsRead.{least_read}
use Rattle.protocol.proofs.node_core.NodeCore.next_unacknowledged.Goals as goal

pub returns : goal.returns
returns g c = least_read _ _ _ _ c.recorded.ensures c.args.peer c.args.from c.next_unacknowledged.result c.next_unacknowledged.ensures
