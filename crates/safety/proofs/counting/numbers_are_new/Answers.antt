use Rattle.units.specs.declared.code.Node.TheVariants.{Registry}
use Rattle.protocol.specs.Verdict.{history}
use Rattle.safety.proofs.MovesAndHistories.LongerHistories.{made_history}
use Rattle.safety.proofs.OneRegistry.ProposalNumbers.{next_is_new}
use Rattle.safety.proofs.counting.numbers_are_new.Goals as goal

pub returns : goal.returns
returns c = λ scheme d journal. next_is_new scheme d (history scheme (Registry d) journal) (made_history scheme (Registry d) journal)
