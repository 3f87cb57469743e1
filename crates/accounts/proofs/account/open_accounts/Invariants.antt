use Rattle.std.proofs.Common.{◌≡◌, ℕ, eqb, cond, Some, None, take}
use Rattle.std.specs.BTreeMap as tree
use Rattle.std.specs.List.{list_any}
use Rattle.std.specs.Ordering.{nat_cmp}
use Rattle.accounts.specs.Accounts.{opened}
use Rattle.accounts.proofs.account.open_accounts.Given as goal

-- there is an open account of each number so far, and no other
abbrev pub invariant-loop-number : goal.invariant-loop-number
invariant-loop-number l = (n : ℕ) → tree.get nat_cmp l.accounts n ≡ cond (list_any (λ a. eqb a n) (take l.number-index l.numbers)) (Some opened) None
