use Rattle.protocol.proofs.RefusedBy.{never_stopped, never_memory, message_code}
use Rattle.protocol.proofs.refusals.refusals_have_causes.Goals as goal

pub returns : goal.returns
returns c = record { stopped = never_stopped; memory = never_memory; messages = message_code }
