use Rattle.std.proofs.Common.{◌-◌, ◌^◌}
use Rattle.units.proofs.SpanWalks.{ChangedTo}
use Rattle.units.proofs.UnitOrder.{index}
use Rattle.units.proofs.unit_map.walking.change_between.Given as goal

-- what begins before the unit that comes next is changed
abbrev pub invariant-loop-unit : goal.invariant-loop-unit
invariant-loop-unit g l = ChangedTo (goal.F-post g l.change) l.fn.from l.to l.cursor l.fn.spans l.spans

abbrev pub decreases-loop-unit : goal.decreases-loop-unit
decreases-loop-unit g l = 2 ^ 63 - index l.cursor
