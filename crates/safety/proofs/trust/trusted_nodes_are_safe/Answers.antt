use Rattle.safety.proofs.AmongStrangers.SafeWorlds.{safe_live, safe_committed}
use Rattle.safety.proofs.trust.trusted_nodes_are_safe.Goals as goal

pub returns-clause-live : goal.returns-clause-live
returns-clause-live c = λ scheme trusted strange events log are_strange. safe_live trusted scheme strange are_strange log events

pub returns-clause-committed : goal.returns-clause-committed
returns-clause-committed c = λ scheme trusted strange events log are_strange. safe_committed trusted scheme strange are_strange log events
