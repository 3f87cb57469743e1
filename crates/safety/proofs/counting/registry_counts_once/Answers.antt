use Rattle.units.specs.declared.code.Node.TheVariants.{Registry}
use Rattle.protocol.specs.Verdict.{history}
use Rattle.safety.proofs.MovesAndHistories.LongerHistories.{made_history}
use Rattle.safety.proofs.OneRegistry.UnitsCountedOnce.{counted_once}
use Rattle.safety.proofs.counting.registry_counts_once.Goals as goal

pub returns : goal.returns
returns c = λ scheme d journal. counted_once scheme d (history scheme (Registry d) journal) (made_history scheme (Registry d) journal)
