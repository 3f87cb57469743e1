use Rattle.std.proofs.Common.{◌≡◌, ◌≤◌, length, drop}
use Rattle.std.specs.FinMap as map
use Rattle.std.specs.Option.{option_or}
use Rattle.units.specs.declared.block.Unit.{Unit as Serial}
use Rattle.scheme.specs.Allotted.{allotted_in}
use Rattle.scheme.proofs.allotments.put_allotted.Given as goal

abbrev pub invariant-loop-left : goal.invariant-loop-left
invariant-loop-left l = record {
  within : l.left ≤ length l.allotted;
  put : (u : Serial) → map.get l.holders u ≡ option_or (allotted_in l.registry (drop l.left l.allotted) u) (map.get l.initial.holders u);
}

abbrev pub decreases-loop-left : goal.decreases-loop-left
decreases-loop-left l = l.left
