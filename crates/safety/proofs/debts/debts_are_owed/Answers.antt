use Rattle.safety.proofs.OwnersOfUnits.DueTransfers.{reached_debts}
use Rattle.safety.proofs.debts.debts_are_owed.Goals as goal

pub returns : goal.returns
returns c = record { debts = reached_debts }
