use Rattle.safety.proofs.NextSchemes.OwnOpening.{follows_opening}
use Rattle.safety.proofs.next_scheme.a_scheme_follows_its_opening.Goals as goal

pub returns : goal.returns
returns c = λ scheme. follows_opening scheme
