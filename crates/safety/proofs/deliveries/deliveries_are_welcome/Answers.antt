use Rattle.safety.proofs.DeliveryLemmas.WelcomeDeliveries.{delivers_welcome}
use Rattle.safety.proofs.DeliveryLemmas.TerminatedTransfers.{terminates_live, terminates_committed}
use Rattle.safety.proofs.deliveries.deliveries_are_welcome.Goals as goal

pub returns : goal.returns
returns c = record { welcome = delivers_welcome; eligibility = terminates_live; eligibility_committed = terminates_committed }
