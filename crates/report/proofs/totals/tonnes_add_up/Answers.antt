use Rattle.safety.proofs.OwnersOfUnits.AllottedBlocks.{allotted_fits}
use Rattle.safety.proofs.OwnersOfUnits.DueTransfers.{reached_debts}
use Rattle.report.proofs.TonnesAddUp.{sums}
use Rattle.report.proofs.totals.tonnes_add_up.Goals as goal

pub returns : goal.returns
returns c = record { sums = sums reached_debts; fits = allotted_fits }
