use Rattle.std.proofs.Common.{arith}
use Rattle.run.proofs.Wired.{registry_peers}
use Rattle.run.proofs.wiring.peers_at.Goals as goal

pub returns-else-at-eq0 : goal.returns-else-at-eq0
returns-else-at-eq0 c = registry_peers c.args.names.now c.args.at (omega (arith, c.if-at-eq0.false)) c.requires
