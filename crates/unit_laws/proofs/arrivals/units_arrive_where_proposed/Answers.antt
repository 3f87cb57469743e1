use Rattle.protocol.specs.Claims.{live_of, committed_of}
use Rattle.safety.proofs.WorldLemmas.ReachedWorlds.{reached, reached_live, reached_committed}
use Rattle.unit_laws.proofs.UnitArrivals.{arrived}
use Rattle.unit_laws.proofs.arrivals.units_arrive_where_proposed.Goals as goal

pub returns-clause-live : goal.returns-clause-live
returns-clause-live c = λ scheme events s d h. arrived scheme (live_of (reached scheme events)) (reached_live scheme events) s d h

pub returns-clause-committed : goal.returns-clause-committed
returns-clause-committed c = λ scheme events s d h. arrived scheme (committed_of (reached scheme events)) (reached_committed scheme events) s d h
