use Rattle.std.proofs.Common.{◌≡◌, vec_len}
use Rattle.weave.specs.Kept.{IsFollowing}
use Rattle.weave.proofs.following.Following.advance.Given as goal

abbrev pub invariant-loop-node : goal.invariant-loop-node
invariant-loop-node l = record {
  follows : IsFollowing l.scheme l.self;
  world : l.self.world ≡ l.initial.self.world;
}

abbrev pub decreases-loop-node : goal.decreases-loop-node
decreases-loop-node l = vec_len l.self.pending
