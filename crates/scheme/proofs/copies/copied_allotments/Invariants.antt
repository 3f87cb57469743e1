use Rattle.std.proofs.Common.{◌≡◌, take}
use Rattle.scheme.proofs.copies.copied_allotments.Given as goal

abbrev pub invariant-loop-allotment : goal.invariant-loop-allotment
invariant-loop-allotment l = l.copies.items ≡ take l.allotment-index l.allotted
