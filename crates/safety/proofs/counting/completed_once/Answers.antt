use Rattle.units.specs.declared.code.Node.TheVariants.{Registry}
use Rattle.protocol.specs.Verdict.{history}
use Rattle.safety.proofs.OneRegistry.TransactionEnds.{completed_is_last}
use Rattle.safety.proofs.MovesAndHistories.LongerHistories.{made_history}
use Rattle.safety.proofs.counting.completed_once.Goals as goal

pub returns : goal.returns
returns c = λ scheme d journal. completed_is_last scheme d (history scheme (Registry d) journal) (made_history scheme (Registry d) journal)
