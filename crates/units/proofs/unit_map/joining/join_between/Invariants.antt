use Rattle.std.proofs.Common.{◌-◌, ◌^◌}
use Rattle.units.proofs.SpanWalks.{JoinedTo}
use Rattle.units.proofs.UnitOrder.{index}
use Rattle.units.proofs.unit_map.joining.join_between.Given as goal

-- what begins before the unit that comes next is joined
abbrev pub invariant-loop-unit : goal.invariant-loop-unit
invariant-loop-unit g l = JoinedTo l.fn.from l.cursor l.fn.spans l.spans

abbrev pub decreases-loop-unit : goal.decreases-loop-unit
decreases-loop-unit g l = 2 ^ 63 - index l.cursor
