use Rattle.std.proofs.Common.{arith, ap, ◌∙◌}
use Rattle.std.proofs.lemmas.Result.{IfOk-weaker, on_err_weaker}
use Rattle.protocol.specs.World.{take_input}
use Rattle.world.specs.Stations.{station_of}
use Rattle.world.proofs.KeptWorlds.{at_index, found, kept_turn, missing, stays_with}
use Rattle.world.proofs.Indices.{index_within}
use Rattle.world.proofs.Worlds.{absent, still, turned}
use Rattle.world.proofs.world.World.take.Goals as goal

pub index_mut-requires : goal.index_mut-requires
index_mut-requires c = omega (arith, index_within _ _ _ (found c.self.inside.scheme c.self.inside.stations.items c.self.inside.bag.items c.args.node c.in-Some.at c.self.invariant c.in-Some.ensures), c.self.inside.stations.ok.0)

pub invariant_of-self : goal.invariant_of-self
invariant_of-self c =
    kept_turn c.self.inside.scheme c.self.inside.stations.items c.self.inside.bag.items c.args.node c.in-Some.at c.index_mut.result.now c.take.new.self c.self.invariant c.in-Some.ensures c.index_mut.ensures.value
    (stays_with c.index_mut.result.now c.take.new.self c.take.ensures.scheme c.take.ensures.node c.take.ensures.posted)

pub returns-in-Some-clause-ok : goal.returns-in-Some-clause-ok
returns-in-Some-clause-ok c =
    rw (← c.self.view_is)
    (IfOk-weaker c.take.result _ _
    (λ o does. turned c.self.inside.scheme c.self.inside.stations.items c.self.inside.bag.items c.args.node c.in-Some.at c.index_mut.result.now c.take.new.self o (take_input c.self.inside.scheme c.args.input.now) (found c.self.inside.scheme c.self.inside.stations.items c.self.inside.bag.items c.args.node c.in-Some.at c.self.invariant c.in-Some.ensures) c.index_mut.ensures.value c.take.ensures.node (does ∙ ap (λ s. take_input s c.args.input.now (station_of c.index_mut.result.now)) (at_index c.self.inside.scheme c.self.inside.stations.items c.self.inside.bag.items c.args.node c.in-Some.at c.index_mut.result.now c.self.invariant c.in-Some.ensures c.index_mut.ensures.value).scheme_is))
    c.take.ensures.ok)

pub returns-in-Some-clause-err : goal.returns-in-Some-clause-err
returns-in-Some-clause-err c =
    rw (← c.self.view_is)
    (on_err_weaker c.take.result (λ same. still c.self.inside.scheme c.self.inside.stations.items c.self.inside.bag.items c.in-Some.at c.index_mut.result.now c.take.new.self c.index_mut.ensures.value same) c.take.ensures.err)

pub returns-in-None-clause-ok : goal.returns-in-None-clause-ok
returns-in-None-clause-ok c = rw (← c.self.view_is) (absent c.self.inside.scheme c.self.inside.stations.items c.self.inside.bag.items c.args.node (take_input c.self.inside.scheme c.args.input.now) (missing c.self.inside.scheme c.self.inside.stations.items c.self.inside.bag.items c.args.node c.self.invariant c.in-None.ensures))
