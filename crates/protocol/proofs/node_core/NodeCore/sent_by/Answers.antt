use Rattle.std.proofs.Common.{◌∙◌}
use Rattle.protocol.proofs.RecordsRead.{sent_by_read}
use Rattle.protocol.proofs.node_core.NodeCore.sent_by.Goals as goal

pub returns : goal.returns
returns g c = c.sent_by.ensures ∙ sent_by_read _ _ _ _ c.recorded.ensures c.args.records
