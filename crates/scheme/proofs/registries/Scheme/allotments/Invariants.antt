use Rattle.std.proofs.Common.{◌≡◌, ◌≤◌, length, drop}
use Rattle.std.specs.FinMap as map
use Rattle.units.specs.declared.block.Unit.{Unit as Serial}
use Rattle.scheme.specs.Allotted.{allotted}
use Rattle.scheme.proofs.registries.Scheme.allotments.Given as goal

abbrev pub invariant-loop-left : goal.invariant-loop-left
invariant-loop-left l = record {
  within : l.left ≤ length l.members;
  put : (u : Serial) → map.get l.holders u ≡ allotted (drop l.left l.members) u;
}

abbrev pub decreases-loop-left : goal.decreases-loop-left
decreases-loop-left l = l.left
