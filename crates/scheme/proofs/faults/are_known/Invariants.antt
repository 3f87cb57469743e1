use Rattle.std.proofs.Common.{take}
use Rattle.std.specs.List.{AllByRecursion}
use Rattle.scheme.specs.Reading.{IsKnown}
use Rattle.scheme.proofs.faults.are_known.Given as goal

abbrev pub invariant-loop-allotment : goal.invariant-loop-allotment
invariant-loop-allotment l = AllByRecursion (λ a. IsKnown l.accounts a.account) (take l.allotment-index l.allotted)
