use Rattle.std.proofs.Common.{take}
use Rattle.units.specs.SpanSteps.{AreJoinedIn}
use Rattle.units.proofs.unit_map.joining.join_along.Given as goal

-- the blocks so far are joined
abbrev pub invariant-loop-block : goal.invariant-loop-block
invariant-loop-block g l = AreJoinedIn (take l.block-index l.blocks) l.fn.spans l.spans
