use Rattle.std.proofs.Common.{ap}
use Rattle.protocol.specs.World.{Stepped}
use Rattle.weave.proofs.following.Following.commit_next.Goals as goal

pub returns-in-Ok-clause-world : goal.returns-in-Ok-clause-world
returns-in-Ok-clause-world c = ap (λ (z : Stepped). z.world) c.in-Ok.ensures.ok
