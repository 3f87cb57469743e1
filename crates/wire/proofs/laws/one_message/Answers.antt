use Rattle.wire.proofs.OneMessage.{line_once}
use Rattle.wire.proofs.laws.one_message.Goals as goal

pub returns : goal.returns
returns c = line_once
