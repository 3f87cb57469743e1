use Rattle.std.proofs.Common.{◌≡◌, drop, find, map, string_bytes}
use Rattle.explain.specs.Topics.{is_topic}
use Rattle.explain.proofs.asking.text_of_first.Given as goal

abbrev pub invariant-loop-name : goal.invariant-loop-name
invariant-loop-name l = find is_topic (map string_bytes l.names) ≡ find is_topic (map string_bytes (drop l.name-index l.names))
