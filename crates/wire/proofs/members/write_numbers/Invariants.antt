use Rattle.std.proofs.Common.{◌≡◌, ◌++◌, take}
use Rattle.json_fields.specs.Writing.{each_tokens}
use Rattle.json_fields.specs.Objects.{whole}
use Rattle.wire.proofs.members.write_numbers.Given as goal

abbrev pub invariant-loop-code : goal.invariant-loop-code
invariant-loop-code l = l.out ≡ l.fn.out ++ each_tokens whole (take l.code-index l.codes)
