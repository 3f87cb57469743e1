use Rattle.safety.proofs.SixRounds.RoundsOfWorlds.{ends_in_time, six_rounds_end}
use Rattle.safety.proofs.SixRounds.WaitingTransfers.{open_ones_wait}
use Rattle.safety.proofs.rounds.six_rounds_are_enough.Goals as goal

pub returns : goal.returns
returns c = record { enough = six_rounds_end; left = ends_in_time; waits = open_ones_wait }
