use Rattle.protocol.specs.Claims.{live_of, committed_of}
use Rattle.safety.proofs.OwnersOfUnits.UnitsWithOneOwner.{causal_one_owner}
use Rattle.safety.proofs.WorldLemmas.ReachedWorlds.{reached, reached_live, reached_committed}
use Rattle.safety.proofs.owning.units_have_one_owner.Goals as goal

pub returns-clause-live : goal.returns-clause-live
returns-clause-live c = λ scheme events. causal_one_owner scheme (live_of (reached scheme events)) (reached_live scheme events)

pub returns-clause-committed : goal.returns-clause-committed
returns-clause-committed c = λ scheme events. causal_one_owner scheme (committed_of (reached scheme events)) (reached_committed scheme events)
