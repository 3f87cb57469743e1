use Rattle.std.proofs.Common.{◌∙◌}
use Rattle.protocol.proofs.RecordsRead.{sends_read}
use Rattle.protocol.proofs.node_core.NodeCore.sends.Goals as goal

pub returns : goal.returns
returns g c = c.sends.ensures ∙ sends_read _ _ _ _ c.recorded.ensures
