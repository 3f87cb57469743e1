use Rattle.std.proofs.Common.{◌≡◌, ◌∙◌, ap, subst}
use Rattle.std.specs.Prelude.{All, IfOk}
use Rattle.protocol.specs.Registries.{nodes}
use Rattle.protocol.specs.Scheme.{Scheme}
use Rattle.world.specs.Cores.{scheme_of}
use Rattle.weave.specs.Following.{IsWoven, journal_of}
use Rattle.loading.proofs.WovenCores.{journals_woven, scheme_woven}
use Rattle.loading.proofs.runs.cores_of_woven.Goals as goal

pub returns-in_ok-into_cores-in-Ok-clause-journals : goal.returns-in_ok-into_cores-in-Ok-clause-journals
returns-in_ok-into_cores-in-Ok-clause-journals c scheme journals count woven =
    let here = subst (λ r. IfOk r (λ w. IsWoven scheme (journal_of scheme journals) w.events.items w.world)) c.in-Ok.is woven in
    c.in_ok-into_cores-in-Ok.ensures.journals ∙ journals_woven scheme journals c.in-Ok.woven.events.items c.in-Ok.woven.world count c.in_ok-into_cores-in-Ok.ensures.stations here

pub returns-in_ok-into_cores-in-Ok-clause-nodes : goal.returns-in_ok-into_cores-in-Ok-clause-nodes
returns-in_ok-into_cores-in-Ok-clause-nodes c scheme journals woven =
    let here = subst (λ r. IfOk r (λ w. IsWoven scheme (journal_of scheme journals) w.events.items w.world)) c.in-Ok.is woven in
    c.in_ok-into_cores-in-Ok.ensures.nodes ∙ ap nodes (scheme_woven scheme journals c.in-Ok.woven.events.items c.in-Ok.woven.world here)

pub returns-in_ok-into_cores-in-Ok-clause-schemes : goal.returns-in_ok-into_cores-in-Ok-clause-schemes
returns-in_ok-into_cores-in-Ok-clause-schemes c scheme journals woven =
    let here = subst (λ r. IfOk r (λ w. IsWoven scheme (journal_of scheme journals) w.events.items w.world)) c.in-Ok.is woven in
    subst (λ (s : Scheme). All (λ core. scheme_of core ≡ s) c.in_ok-into_cores-in-Ok.field-0.items) (scheme_woven scheme journals c.in-Ok.woven.events.items c.in-Ok.woven.world here) c.in_ok-into_cores-in-Ok.ensures.schemes
