use Rattle.std.proofs.Common.{◌≡◌, true, IsSome, take}
use Rattle.std.specs.FinMap.{get}
use Rattle.units.specs.Unit.{covers}
use Rattle.units.specs.declared.block.Unit.{Unit as Serial}
use Rattle.units.proofs.block_set.BlockSet.contains_all.Given as goal

-- the units of the blocks so far are there
abbrev pub invariant-loop-block : goal.invariant-loop-block
invariant-loop-block l = (u : Serial) → covers (take l.block-index l.blocks) u ≡ true → IsSome (get l.self u)
