use Rattle.protocol.specs.Claims.{live_of, committed_of}
use Rattle.safety.proofs.AgreementOfNodes.CausalHistories.{causal_agrees}
use Rattle.safety.proofs.WorldLemmas.ReachedWorlds.{reached, reached_live, reached_committed}
use Rattle.safety.proofs.agreement.nodes_agree.Goals as goal

pub returns-clause-live : goal.returns-clause-live
returns-clause-live c = λ scheme events. causal_agrees scheme (live_of (reached scheme events)) (reached_live scheme events)

pub returns-clause-committed : goal.returns-clause-committed
returns-clause-committed c = λ scheme events. causal_agrees scheme (committed_of (reached scheme events)) (reached_committed scheme events)
