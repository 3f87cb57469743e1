use Rattle.std.proofs.Common.{◌≡◌, ◌++◌, take}
use Rattle.json_fields.specs.Writing.{each_tokens}
use Rattle.json_fields.specs.Objects.{whole}
use Rattle.scheme.proofs.writing.write_accounts.Given as goal

abbrev pub invariant-loop-account : goal.invariant-loop-account
invariant-loop-account l = l.out ≡ l.fn.out ++ each_tokens whole (take l.account-index l.accounts)
