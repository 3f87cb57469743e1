use Rattle.one_node.proofs.Forgetting.{follows_none, follows_on}
use Rattle.one_node.proofs.evidence.Evidence.catch_up.Goals as goal

pub loop-init : goal.loop-init
loop-init g c = follows_none c.args.self.now

pub loop-preserved : goal.loop-preserved
loop-preserved g c = follows_on c.args.self.now c.loop.self c.follow.new.self c.loop.invariant c.in_ok-follow.ensures
