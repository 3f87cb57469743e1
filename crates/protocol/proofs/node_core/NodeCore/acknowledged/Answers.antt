use Rattle.std.proofs.Common.{◌∙◌}
use Rattle.protocol.proofs.RecordsRead.{acknowledged_read}
use Rattle.protocol.proofs.node_core.NodeCore.acknowledged.Goals as goal

pub returns : goal.returns
returns g c = c.is_acknowledged.ensures ∙ acknowledged_read _ _ _ _ c.recorded.ensures c.args.key
