use Rattle.std.proofs.Common.{◌≡◌, drop}
use Rattle.scheme.specs.Allotted.{allotted_in}
use Rattle.scheme.proofs.registries.holder_in.Given as goal

abbrev pub invariant-loop-allotment : goal.invariant-loop-allotment
invariant-loop-allotment l = allotted_in l.code (drop l.allotment-index l.allotted) l.unit ≡ allotted_in l.code l.allotted l.unit
