use Rattle.std.proofs.Common.{take}
use Rattle.scheme.specs.Order.{IsFreeOf}
use Rattle.scheme.specs.declared.members.SchemeFault.TheVariants.{AccountTwice}
use Rattle.scheme.proofs.faults.have_different_accounts.Given as goal

abbrev pub invariant-loop-member : goal.invariant-loop-member
invariant-loop-member l = IsFreeOf AccountTwice (take l.member-index l.members)
