use Rattle.std.proofs.Common.{◌≡◌, ◌≤◌, length, drop, option_map}
use Rattle.std.specs.FinMap as map
use Rattle.std.specs.List.{find}
use Rattle.std.specs.Option.{option_or}
use Rattle.units.specs.Unit.{has_unit}
use Rattle.units.specs.declared.block.Unit.{Unit as Serial}
use Rattle.scheme.specs.Allotted.{holder}
use Rattle.scheme.proofs.allotments.put_blocks.Given as goal

abbrev pub invariant-loop-left : goal.invariant-loop-left
invariant-loop-left l = record {
  within : l.left ≤ length l.blocks;
  put : (u : Serial) → map.get l.holders u ≡ option_or (option_map (λ b. holder l.registry l.account b.raw.kind) (find (λ b. has_unit b.raw u) (drop l.left l.blocks))) (map.get l.initial.holders u);
}

abbrev pub decreases-loop-left : goal.decreases-loop-left
decreases-loop-left l = l.left
