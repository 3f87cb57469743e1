use Rattle.events.proofs.Lines.{rehearsal_of}
use Rattle.events.proofs.text.is_rehearsal.Goals as goal

pub returns : goal.returns
returns c = rehearsal_of
