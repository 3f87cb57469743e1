use Rattle.safety.proofs.DeliveryLemmas.WelcomeDeliveries.{delivers_welcome_among}
use Rattle.safety.proofs.trust.trusted_deliveries_are_welcome.Goals as goal

pub returns : goal.returns
returns c = λ scheme trusted strange events log are_strange. delivers_welcome_among trusted scheme strange are_strange log events
