use Rattle.protocol.specs.Claims.{live_of, committed_of}
use Rattle.safety.proofs.OwnersOfUnits.AccountedUnits.{holder_owns}
use Rattle.safety.proofs.WorldLemmas.ReachedWorlds.{reached, reached_live, reached_committed}
use Rattle.safety.proofs.owning.holders_own.Goals as goal

pub returns-clause-live : goal.returns-clause-live
returns-clause-live c = λ scheme events. holder_owns scheme (live_of (reached scheme events)) (reached_live scheme events)

pub returns-clause-committed : goal.returns-clause-committed
returns-clause-committed c = λ scheme events. holder_owns scheme (committed_of (reached scheme events)) (reached_committed scheme events)
