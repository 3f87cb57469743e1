use Rattle.one_node.proofs.Forgetting.{follows_alike}
use Rattle.one_node.proofs.evidence.Evidence.keep_few.Goals as goal

pub returns-in-GoesOn : goal.returns-in-GoesOn
returns-in-GoesOn g c = follows_alike c.args.self.now _
