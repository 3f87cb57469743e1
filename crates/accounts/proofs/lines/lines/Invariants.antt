use Rattle.std.proofs.Common.{◌≡◌, map, take}
use Rattle.accounts.specs.Lines.{unit_holding_interval}
use Rattle.accounts.proofs.lines.lines.Given as goal

abbrev pub invariant-loop-interval : goal.invariant-loop-interval
invariant-loop-interval l = map unit_holding_interval l.lines.items ≡ take l.interval-index l.intervals
