use Rattle.std.proofs.Common.{arith}
use Rattle.std.proofs.lemmas.Grind.{common_steps}
use Rattle.tags.proofs.key.Key.reply_tag.Goals as goal

pub returns : goal.returns
returns c = grind (arith, common_steps)
