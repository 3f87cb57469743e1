use Rattle.safety.proofs.JournalWeaves.WaitingJournals.{two_units, journals, plausible, not_projected}
use Rattle.safety.proofs.weaving.plausible_is_not_enough.Goals as goal

pub returns : goal.returns
returns c = (two_units, journals, plausible, not_projected)
