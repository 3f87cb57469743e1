use Rattle.std.proofs.Common.{◌≤◌, length, take}
use Rattle.std.specs.List.{AllByRecursion}
use Rattle.scheme.proofs.faults.have_few_accounts.Given as goal

abbrev pub invariant-loop-member : goal.invariant-loop-member
invariant-loop-member l = AllByRecursion (λ m. length m.accounts ≤ 1_000) (take l.member-index l.members)
