use Rattle.std.proofs.Common.{◌≡◌, ◌++◌, string_bytes, take}
use Rattle.explain.specs.Topics.{entries, listed}
use Rattle.explain.proofs.topics.add_names.Given as goal

abbrev pub invariant-loop-name : goal.invariant-loop-name
invariant-loop-name l = string_bytes l.lines ≡ string_bytes l.initial.lines ++ listed (entries (take l.name-index l.table))
