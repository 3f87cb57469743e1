use Rattle.std.proofs.Common.{◌≡◌, ◌++◌, take}
use Rattle.json_fields.specs.Writing.{each_tokens}
use Rattle.scheme.specs.Written.{allotment_data}
use Rattle.scheme.proofs.writing.write_allotments.Given as goal

abbrev pub invariant-loop-allotment : goal.invariant-loop-allotment
invariant-loop-allotment l = l.out ≡ l.fn.out ++ each_tokens allotment_data (take l.allotment-index l.allotted)
