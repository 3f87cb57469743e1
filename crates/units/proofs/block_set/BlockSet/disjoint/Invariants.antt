use Rattle.std.proofs.Common.{◌≡◌, true, None, take}
use Rattle.std.specs.FinMap.{get}
use Rattle.units.specs.Unit.{covers}
use Rattle.units.specs.declared.block.Unit.{Unit as Serial}
use Rattle.units.proofs.block_set.BlockSet.disjoint.Given as goal

-- no unit of the blocks so far is there
abbrev pub invariant-loop-block : goal.invariant-loop-block
invariant-loop-block l = (u : Serial) → covers (take l.block-index l.blocks) u ≡ true → get l.self u ≡ None
