use Rattle.std.proofs.Common.{◌∙◌}
use Rattle.status.proofs.Contents.{same_raws}
use Rattle.status.proofs.content.are_same_blocks.Goals as goal

pub returns : goal.returns
returns c = c.eq.ensures ∙ same_raws c.args.a.now c.args.b.now
