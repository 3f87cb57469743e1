use Rattle.safety.proofs.SixRounds.ReceivedMessages.{settled_stays, settles_what_is_received}
use Rattle.safety.proofs.rounds.what_is_received_is_settled.Goals as goal

pub returns : goal.returns
returns c = record { received = settles_what_is_received; stays = settled_stays }
