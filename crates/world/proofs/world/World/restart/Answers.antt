use Rattle.std.proofs.Common.{arith, ap}
use Rattle.protocol.specs.World.{restart, step}
use Rattle.world.specs.Cores.{node_of}
use Rattle.world.proofs.KeptWorlds.{found, kept_turn, missing, stays_core}
use Rattle.world.proofs.Indices.{index_within}
use Rattle.world.proofs.Worlds.{absent, turned}
use Rattle.world.proofs.world.World.restart.Goals as goal

pub index_mut-requires : goal.index_mut-requires
index_mut-requires c = omega (arith, index_within _ _ _ (found c.self.inside.scheme c.self.inside.stations.items c.self.inside.bag.items c.args.node c.in-Some.at c.self.invariant c.in-Some.ensures), c.self.inside.stations.ok.0)

pub invariant_of-self : goal.invariant_of-self
invariant_of-self c =
    kept_turn c.self.inside.scheme c.self.inside.stations.items c.self.inside.bag.items c.args.node c.in-Some.at c.index_mut.result.now c.restart.new.self c.self.invariant c.in-Some.ensures c.index_mut.ensures.value
    (stays_core c.index_mut.result.now c.restart.new.self c.restart.ensures.core c.restart.ensures.posted)

pub returns-in-Some : goal.returns-in-Some
unfolding step
returns-in-Some c =
    rw (← c.self.view_is)
    (turned c.self.inside.scheme c.self.inside.stations.items c.self.inside.bag.items c.args.node c.in-Some.at c.index_mut.result.now c.restart.new.self c.restart.result (restart) (found c.self.inside.scheme c.self.inside.stations.items c.self.inside.bag.items c.args.node c.in-Some.at c.self.invariant c.in-Some.ensures) c.index_mut.ensures.value (ap node_of c.restart.ensures.core) c.restart.ensures.value)

pub returns-in-None : goal.returns-in-None
unfolding step
returns-in-None c = rw (← c.self.view_is) (absent c.self.inside.scheme c.self.inside.stations.items c.self.inside.bag.items c.args.node (restart) (missing c.self.inside.scheme c.self.inside.stations.items c.self.inside.bag.items c.args.node c.self.invariant c.in-None.ensures))
