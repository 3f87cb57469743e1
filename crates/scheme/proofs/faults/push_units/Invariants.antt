use Rattle.std.proofs.Common.{◌≡◌, ◌++◌, take}
use Rattle.scheme.specs.Order.{blocks_of}
use Rattle.scheme.proofs.faults.push_units.Given as goal

abbrev pub invariant-loop-allotment : goal.invariant-loop-allotment
invariant-loop-allotment l = l.all.items ≡ l.fn.all.items ++ blocks_of (take l.allotment-index l.allotted)
