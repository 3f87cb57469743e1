use Rattle.safety.proofs.CleanUps.{ascending_expired, expired_of_each}
use Rattle.safety.proofs.clean_ups.clean_up_takes_what_has_expired.Goals as goal

pub returns : goal.returns
returns c = record { each = expired_of_each; ascending = ascending_expired }
