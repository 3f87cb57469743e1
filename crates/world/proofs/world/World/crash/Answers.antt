use Rattle.std.proofs.Common.{arith}
use Rattle.std.proofs.lemmas.Result.{IfOk-weaker, on_err_weaker}
use Rattle.protocol.specs.World.{crash, step}
use Rattle.world.proofs.KeptWorlds.{found, kept_turn, missing, stays_with}
use Rattle.world.proofs.Indices.{index_within}
use Rattle.world.proofs.Worlds.{absent, still, turned}
use Rattle.world.proofs.world.World.crash.Goals as goal

pub index_mut-requires : goal.index_mut-requires
index_mut-requires c = omega (arith, index_within _ _ _ (found c.self.inside.scheme c.self.inside.stations.items c.self.inside.bag.items c.args.node c.in-Some.at c.self.invariant c.in-Some.ensures), c.self.inside.stations.ok.0)

pub invariant_of-self : goal.invariant_of-self
invariant_of-self c =
    kept_turn c.self.inside.scheme c.self.inside.stations.items c.self.inside.bag.items c.args.node c.in-Some.at c.index_mut.result.now c.crash.new.self c.self.invariant c.in-Some.ensures c.index_mut.ensures.value
    (stays_with c.index_mut.result.now c.crash.new.self c.crash.ensures.scheme c.crash.ensures.node c.crash.ensures.posted)

pub returns-in-Some-clause-ok : goal.returns-in-Some-clause-ok
unfolding step
returns-in-Some-clause-ok c =
    rw (← c.self.view_is)
    (IfOk-weaker c.crash.result _ _
    (λ o does. turned c.self.inside.scheme c.self.inside.stations.items c.self.inside.bag.items c.args.node c.in-Some.at c.index_mut.result.now c.crash.new.self o (crash c.args.kept) (found c.self.inside.scheme c.self.inside.stations.items c.self.inside.bag.items c.args.node c.in-Some.at c.self.invariant c.in-Some.ensures) c.index_mut.ensures.value c.crash.ensures.node does)
    c.crash.ensures.ok)

pub returns-in-Some-clause-err : goal.returns-in-Some-clause-err
returns-in-Some-clause-err c =
    rw (← c.self.view_is)
    (on_err_weaker c.crash.result (λ same. still c.self.inside.scheme c.self.inside.stations.items c.self.inside.bag.items c.in-Some.at c.index_mut.result.now c.crash.new.self c.index_mut.ensures.value same) c.crash.ensures.err)

pub returns-in-None-clause-ok : goal.returns-in-None-clause-ok
unfolding step
returns-in-None-clause-ok c = rw (← c.self.view_is) (absent c.self.inside.scheme c.self.inside.stations.items c.self.inside.bag.items c.args.node (crash c.args.kept) (missing c.self.inside.scheme c.self.inside.stations.items c.self.inside.bag.items c.args.node c.self.invariant c.in-None.ensures))
