use Rattle.ended_nodes.proofs.Reporting.{if_ok}
use Rattle.one_node.proofs.Ending.{life_as}
use Rattle.commands.proofs.standing.run_over.Goals as goal

pub returns-clause-life : goal.returns-clause-life
returns-clause-life g c = if_ok c.run_alone.result (λ s life. life_as _ _ _ _ (λ m told. tt) _ _ _ _ _ _ _ _ _ (λ input takes. tt) life) c.run_alone.ensures.life
