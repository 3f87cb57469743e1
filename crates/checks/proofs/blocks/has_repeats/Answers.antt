use Rattle.checks.proofs.PiecesOfBlocks.{repeats_told}
use Rattle.checks.proofs.blocks.has_repeats.Goals as goal

pub returns : goal.returns
returns c = repeats_told c.args.blocks.now c.overlaps.result c.overlaps.ensures.none c.overlaps.ensures.some
