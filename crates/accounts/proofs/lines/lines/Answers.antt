use Rattle.units.proofs.CountingUnits.{range_at}
use Rattle.accounts.proofs.lines.lines.Goals as goal

pub line-requires : goal.line-requires
line-requires c = range_at c.args.intervals.now c.loop-interval.interval-index c.interval-item.result c.requires c.loop-interval-test.true c.interval-item.is
