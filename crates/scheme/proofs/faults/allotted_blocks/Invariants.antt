use Rattle.std.proofs.Common.{◌≡◌, take}
use Rattle.scheme.specs.Order.{all_blocks}
use Rattle.scheme.proofs.faults.allotted_blocks.Given as goal

abbrev pub invariant-loop-member : goal.invariant-loop-member
invariant-loop-member l = l.all.items ≡ all_blocks (take l.member-index l.members)
