use Rattle.units.proofs.CountingUnits.{range_at}
use Rattle.units.proofs.interval.blocks_of.Goals as goal

pub block-requires : goal.block-requires
block-requires c = range_at c.args.intervals.now c.loop-interval.interval-index c.interval-item.result c.requires c.loop-interval-test.true c.interval-item.is
