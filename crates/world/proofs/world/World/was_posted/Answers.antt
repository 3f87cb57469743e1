use Rattle.std.proofs.Common.{arith, ◌∙◌}
use Rattle.world.proofs.KeptWorlds.{found, marked_here, posted_nothing}
use Rattle.world.proofs.Indices.{index_within}
use Rattle.world.proofs.world.World.was_posted.Goals as goal

pub index-requires : goal.index-requires
index-requires c = omega (arith, index_within _ _ _ (found c.self.inside.scheme c.self.inside.stations.items c.self.inside.bag.items c.args.node c.in-Some.at c.self.invariant c.in-Some.ensures), c.self.inside.stations.ok.0)

pub returns-in-Some : goal.returns-in-Some
returns-in-Some c = rw (← c.self.view_is) (c.contains.ensures ∙ marked_here c.self.inside.scheme c.self.inside.stations.items c.self.inside.bag.items c.args.node c.in-Some.at c.args.key c.index.result.now c.self.invariant c.in-Some.ensures c.index.ensures)

pub returns-in-None : goal.returns-in-None
returns-in-None c = rw (← c.self.view_is) (posted_nothing c.self.inside.scheme c.self.inside.stations.items c.self.inside.bag.items c.args.node c.args.key c.self.invariant c.in-None.ensures)
