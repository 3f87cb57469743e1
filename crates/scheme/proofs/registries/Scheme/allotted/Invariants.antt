use Rattle.std.proofs.Common.{◌≡◌, drop}
use Rattle.scheme.specs.Allotted.{allotted}
use Rattle.scheme.proofs.registries.Scheme.allotted.Given as goal

abbrev pub invariant-loop-member : goal.invariant-loop-member
invariant-loop-member l = allotted (drop l.member-index l.member-items) l.unit ≡ allotted l.self.members l.unit
