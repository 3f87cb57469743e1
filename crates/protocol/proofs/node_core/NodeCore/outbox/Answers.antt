use Rattle.std.proofs.Common.{◌∙◌}
use Rattle.protocol.proofs.RecordsRead.{message_read}
use Rattle.protocol.proofs.node_core.NodeCore.outbox.Goals as goal

pub returns : goal.returns
returns g c = c.message.ensures ∙ message_read _ _ _ _ c.recorded.ensures c.args.key
