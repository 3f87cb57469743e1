use Rattle.safety.proofs.OneLog.OwnersInLog.{ends_stay, under_way_apart, owned_by_initiator}
use Rattle.safety.proofs.log.log_alone.Goals as goal

pub returns : goal.returns
returns c = record { ends_stay = ends_stay; apart = under_way_apart; owned = owned_by_initiator }
