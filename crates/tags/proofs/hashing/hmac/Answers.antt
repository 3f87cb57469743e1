use Rattle.std.proofs.Common.{rules}
use Rattle.tags.proofs.hashing.hmac.Goals as goal

pub returns : goal.returns
returns c = search rules
