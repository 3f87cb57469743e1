use Rattle.protocol.proofs.WorkedScheme.{scheme_s}
use Rattle.safety.proofs.SixRounds.FiveRounds.{proposed, not_ended}
use Rattle.safety.proofs.rounds.five_rounds_are_too_few.Goals as goal

pub returns : goal.returns
returns c = (scheme_s, proposed, not_ended)
