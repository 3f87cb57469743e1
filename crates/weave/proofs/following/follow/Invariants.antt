use Rattle.std.proofs.Common.{◌≡◌, map}
use Rattle.units.specs.declared.code.Node.{Node}
use Rattle.protocol.specs.Registries.{nodes}
use Rattle.world.specs.Cores as node_cores
use Rattle.weave.specs.Following.{journal_of}
use Rattle.weave.specs.Kept.{IsFollowing, left_in}
use Rattle.weave.specs.Steps.{whole_at}
use Rattle.weave.proofs.following.follow.Given as goal

abbrev pub invariant-loop-following : goal.invariant-loop-following
invariant-loop-following g l = record {
  follows : IsFollowing l.scheme l.following;
  whole : (n : Node) → whole_at l.following.world n ≡ journal_of l.scheme (map node_cores.journal_of l.fn.cores.items) n;
}

abbrev pub decreases-loop-following : goal.decreases-loop-following
decreases-loop-following g l = left_in l.following.world (nodes l.scheme)
