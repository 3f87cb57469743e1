use Rattle.protocol.specs.Claims.{live_of, committed_of}
use Rattle.safety.proofs.OwnersOfUnits.UnitsInOnePlace.{causal_one_place, spent_once}
use Rattle.safety.proofs.WorldLemmas.ReachedWorlds.{reached, reached_live, reached_committed, reached_live_unplaced, reached_committed_unplaced}
use Rattle.safety.proofs.one_place.units_stand_in_one_place.Goals as goal

pub returns-clause-live : goal.returns-clause-live
returns-clause-live c = λ scheme events. causal_one_place scheme (live_of (reached scheme events)) (reached_live scheme events)

pub returns-clause-committed : goal.returns-clause-committed
returns-clause-committed c = λ scheme events. causal_one_place scheme (committed_of (reached scheme events)) (reached_committed scheme events)

pub returns-clause-spent_once : goal.returns-clause-spent_once
returns-clause-spent_once c = λ scheme events.
    spent_once scheme (live_of (reached scheme events)) (reached_live_unplaced scheme events) (causal_one_place scheme (live_of (reached scheme events)) (reached_live scheme events))

pub returns-clause-spent_once_committed : goal.returns-clause-spent_once_committed
returns-clause-spent_once_committed c = λ scheme events.
    spent_once scheme (committed_of (reached scheme events)) (reached_committed_unplaced scheme events) (causal_one_place scheme (committed_of (reached scheme events)) (reached_committed scheme events))
