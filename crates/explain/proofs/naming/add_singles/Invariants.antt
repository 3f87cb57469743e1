use Rattle.std.proofs.Common.{◌≡◌, ◌++◌, filter, map, not, string_bytes, take}
use Rattle.explain.specs.Topics.{bare, is_number}
use Rattle.explain.proofs.naming.add_singles.Given as goal

abbrev pub invariant-loop-part : goal.invariant-loop-part
invariant-loop-part l = record {
  others : map string_bytes l.names.items ≡ map string_bytes l.initial.names.items
      ++ filter (λ name. not (is_number name)) (map bare (map (λ part. part.now) (take l.part-index l.parts)));
  numbers : map string_bytes l.numbers.items
      ≡ filter is_number (map bare (map (λ part. part.now) (take l.part-index l.parts)));
}
