use Rattle.std.proofs.Common.{arith, ◌∙◌}
use Rattle.std.proofs.lemmas.Grind.{common_steps}
use Rattle.world.proofs.Opening.{opens_more}
use Rattle.world.proofs.stations.add_opening_stations.Goals as goal

pub loop-member-preserved : goal.loop-member-preserved
loop-member-preserved c = record {
  opens =
      c.in_ok-add_opening_station-2.ensures.opens
      ∙ opens_more _ c.registries-member-items.result.now c.loop-member.member-index c.member-item.result c.loop-member-test.true c.member-item.is c.loop-member.invariant.opens;
  fresh = c.in_ok-add_opening_station-2.ensures.fresh c.loop-member.invariant.fresh;
}

pub returns-clause-opens : goal.returns-clause-opens
returns-clause-opens c = grind (arith, common_steps)
