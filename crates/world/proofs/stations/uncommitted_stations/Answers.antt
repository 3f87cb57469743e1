use Rattle.std.proofs.Common.{arith, ◌++◌, ◌∷◌, ◌∙◌, ℕ, List, false, map, ap, sym, subst}
use Rattle.std.proofs.lemmas.Grind.{common_steps}
use Rattle.std.specs.BTreeSet.{contains}
use Rattle.std.specs.Ordering.{nat_cmp}
use Rattle.std.specs.Prelude.{◌≡◌, All}
use Rattle.std.proofs.lemmas.List.Elements.{All-push}
use Rattle.world.specs.declared.any_core.Core.{Core}
use Rattle.world.specs.declared.station.Station.{Station}
use Rattle.world.specs.Stations.{station_of, uncommitted_station}
use Rattle.world.proofs.Uncommitted.{moved}
use Rattle.world.proofs.stations.uncommitted_stations.Goals as goal

pub loop-core-preserved : goal.loop-core-preserved
loop-core-preserved c =
    let kept = c.loop-core.invariant in
    let step = c.in-Some.ensures.steps.0 in
    record {
      cores = moved (λ (s : Station). s.core) c.loop-core.stations.items c.new.result _ _ _ c.in_ok-push.ensures.items
          (ap (λ (x : Core). map (λ (s : Station). s.core) c.loop-core.stations.items ++ x ∷ c.next.new.self.rest.items) c.new.ensures.core ∙ sym (ap (λ (l : List Core). map (λ (s : Station). s.core) c.loop-core.stations.items ++ l) step) ∙ kept.cores);
      seen =
          subst (All (λ (s : Station). station_of s ≡ uncommitted_station s.core)) (sym c.in_ok-push.ensures.items)
          (All-push (λ (s : Station). station_of s ≡ uncommitted_station s.core) c.loop-core.stations.items c.new.result kept.seen
          (c.new.ensures.seen ∙ ap uncommitted_station (sym c.new.ensures.core)));
      posted =
          subst (All (λ (s : Station). (key : ℕ) → contains nat_cmp s.posted key ≡ false)) (sym c.in_ok-push.ensures.items)
          (All-push (λ (s : Station). (key : ℕ) → contains nat_cmp s.posted key ≡ false) c.loop-core.stations.items c.new.result kept.posted c.new.ensures.posted);
    }

pub returns-clause-cores : goal.returns-clause-cores
returns-clause-cores c = grind (arith, common_steps)
