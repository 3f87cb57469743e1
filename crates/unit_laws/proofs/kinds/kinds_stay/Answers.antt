use Rattle.protocol.specs.Claims.{live_of, committed_of}
use Rattle.safety.proofs.WorldLemmas.ReachedWorlds.{reached, reached_live, reached_committed}
use Rattle.unit_laws.proofs.UnitKinds.{keeps_kinds}
use Rattle.unit_laws.proofs.kinds.kinds_stay.Goals as goal

pub returns-clause-live : goal.returns-clause-live
returns-clause-live c = λ scheme events. keeps_kinds scheme (live_of (reached scheme events)) (reached_live scheme events)

pub returns-clause-committed : goal.returns-clause-committed
returns-clause-committed c = λ scheme events. keeps_kinds scheme (committed_of (reached scheme events)) (reached_committed scheme events)
