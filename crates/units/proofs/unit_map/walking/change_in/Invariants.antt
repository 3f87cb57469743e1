use Rattle.std.proofs.Common.{take}
use Rattle.units.specs.SpanSteps.{AreChangedIn}
use Rattle.units.proofs.unit_map.walking.change_in.Given as goal

-- the blocks so far are changed
abbrev pub invariant-loop-block : goal.invariant-loop-block
invariant-loop-block g l = AreChangedIn (goal.F-post g l.change) (take l.block-index l.blocks) l.fn.spans l.spans
