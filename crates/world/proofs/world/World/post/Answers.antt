use Rattle.std.proofs.Common.{arith, ◌++◌, ◌∷◌, [], List, sym, ap, ◌∙◌, subst}
use Rattle.std.proofs.Math.ListN.{set}
use Rattle.protocol.specs.World.{step}
use Rattle.protocol.specs.declared.event.Outcome.TheVariants.{Done}
use Rattle.protocol.specs.declared.event.Posted.{Posted}
use Rattle.world.specs.Cores.{node_of, scheme_of}
use Rattle.world.specs.Kept.{AreKept, world_of}
use Rattle.world.proofs.KeptWorlds.{found, kept_post, kept_turn, posts, posts_none, posts_nowhere}
use Rattle.world.proofs.Indices.{index_within}
use Rattle.world.proofs.Worlds.{after, still}
use Rattle.world.proofs.world.World.post.Goals as goal

pub returns-in_default-clause-ok : goal.returns-in_default-clause-ok
unfolding step
returns-in_default-clause-ok c = rw (← c.self.view_is) (posts_nowhere c.self.inside.scheme c.self.inside.stations.items c.self.inside.bag.items c.args.node c.args.key c.self.invariant (sym c.in_default.is ∙ c.index_of.ensures))

pub index-requires : goal.index-requires
index-requires c = omega (arith, index_within _ _ _ (found c.self.inside.scheme c.self.inside.stations.items c.self.inside.bag.items c.args.node c.in-Some.at c.self.invariant c.in-Some.ensures), c.self.inside.stations.ok.0)

pub returns-in_default-2-clause-ok : goal.returns-in_default-2-clause-ok
unfolding step
returns-in_default-2-clause-ok c =
    rw (← c.self.view_is)
    (posts_none c.self.inside.scheme c.self.inside.stations.items c.self.inside.bag.items c.args.node c.in-Some.at c.args.key c.index.result.now c.self.invariant c.in-Some.ensures c.index.ensures (sym c.in_default-2.is ∙ c.in_ok-message.ensures ∙ c.sent.ensures))

pub index_mut-requires : goal.index_mut-requires
index_mut-requires c = omega (arith, index_within _ _ _ (found c.self.inside.scheme c.self.inside.stations.items c.self.inside.bag.items c.args.node c.in-Some.at c.self.invariant c.in-Some.ensures), c.self.inside.stations.ok.0)

pub invariant_of-self-in-Err : goal.invariant_of-self-in-Err
invariant_of-self-in-Err c =
    subst (λ (bag : List Posted). AreKept c.self.inside.scheme (set c.self.inside.stations.items c.in-Some.at c.mark_posted.new.self) bag) (sym c.reserve.ensures.items)
    (kept_turn c.self.inside.scheme c.self.inside.stations.items c.self.inside.bag.items c.args.node c.in-Some.at c.index_mut.result.now c.mark_posted.new.self c.self.invariant c.in-Some.ensures c.index_mut.ensures.value
    (record { scheme = ap scheme_of c.mark_posted.ensures.core; node = ap node_of c.mark_posted.ensures.core; posted = c.in-Err.ensures.err }))

pub returns-in-Err-clause-err : goal.returns-in-Err-clause-err
returns-in-Err-clause-err c =
    rw (← c.self.view_is)
    (ap (world_of c.self.inside.scheme (set c.self.inside.stations.items c.in-Some.at c.mark_posted.new.self)) c.reserve.ensures.items
    ∙ still c.self.inside.scheme c.self.inside.stations.items c.self.inside.bag.items c.in-Some.at c.index_mut.result.now c.mark_posted.new.self c.index_mut.ensures.value c.mark_posted.ensures.seen)

pub invariant_of-self-2 : goal.invariant_of-self-2
invariant_of-self-2 c =
    let p : Posted = record { node = c.args.node; key = c.args.key; message = c.in-Some-2.message } in
    subst (λ (bag : List Posted). AreKept c.self.inside.scheme (set c.self.inside.stations.items c.in-Some.at c.mark_posted.new.self) bag)
    (sym (c.push_reserved.ensures.items ∙ ap (λ (l : List Posted). l ++ p ∷ []) c.reserve.ensures.items))
    (kept_post c.self.inside.scheme c.self.inside.stations.items c.self.inside.bag.items c.in-Some.at p c.index_mut.result.now c.mark_posted.new.self c.self.invariant c.in-Some.ensures c.index_mut.ensures.value c.mark_posted.ensures.core c.in_default-mark_posted.ensures.ok)

pub returns-clause-ok : goal.returns-clause-ok
unfolding step
returns-clause-ok c =
    let p : Posted = record { node = c.args.node; key = c.args.key; message = c.in-Some-2.message } in
    rw (← c.self.view_is)
    (ap (λ (bag : List Posted). after (world_of c.self.inside.scheme (set c.self.inside.stations.items c.in-Some.at c.mark_posted.new.self) bag) Done) (c.push_reserved.ensures.items ∙ ap (λ (l : List Posted). l ++ p ∷ []) c.reserve.ensures.items)
    ∙ posts c.self.inside.scheme c.self.inside.stations.items c.self.inside.bag.items c.args.node c.in-Some.at c.args.key c.in-Some-2.message c.index.result.now c.index_mut.result.now c.mark_posted.new.self c.self.invariant c.in-Some.ensures c.index.ensures (sym c.in-Some-2.is ∙ c.in_ok-message.ensures ∙ c.sent.ensures)
    c.index_mut.ensures.value c.mark_posted.ensures.seen)
