use Rattle.std.proofs.Common.{◌≡◌, ◌∙◌, map, ap, sym, subst}
use Rattle.std.specs.Prelude.{All}
use Rattle.std.proofs.lemmas.Result.{IfOk-weaker}
use Rattle.world.specs.Cores.{journal_of, node_of, scheme_of}
use Rattle.world.specs.declared.any_core.Core.{Core}
use Rattle.world.proofs.CoresOfWorlds.{journals_seen, nodes_of_cores, nodes_seen, schemes_kept}
use Rattle.world.proofs.world.World.into_cores.Goals as goal

pub returns-clause-stations : goal.returns-clause-stations
returns-clause-stations c = rw (← c.self.view_is) (nodes_seen c.self.inside.stations.items ∙ c.self.invariant.nodes_are)

pub returns-clause-nodes : goal.returns-clause-nodes
returns-clause-nodes c =
    rw (← c.self.view_is) (IfOk-weaker c.cores_of.result _ _ (λ v all. ap (map node_of) all ∙ nodes_of_cores c.self.inside.stations.items ∙ c.self.invariant.nodes_are) c.cores_of.ensures)

pub returns-clause-schemes : goal.returns-clause-schemes
returns-clause-schemes c =
    let inside = c.self.inside in
    rw (← c.self.view_is) (IfOk-weaker c.cores_of.result _ _ (λ v all. subst (All (λ (core : Core). scheme_of core ≡ inside.scheme)) (sym all) (schemes_kept inside.scheme inside.bag.items inside.stations.items c.self.invariant.kept)) c.cores_of.ensures)

pub returns-clause-journals : goal.returns-clause-journals
returns-clause-journals c = rw (← c.self.view_is) (IfOk-weaker c.cores_of.result _ _ (λ v all. ap (map journal_of) all ∙ journals_seen c.self.inside.stations.items) c.cores_of.ensures)
