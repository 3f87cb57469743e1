use Rattle.std.proofs.Common.{◌≡◌, ◌++◌, map, string_bytes}
use Rattle.std.specs.Slice.Iter.{windows_rest, windows_size}
use Rattle.explain.specs.Topics.{pairs}
use Rattle.explain.proofs.naming.add_pairs.Given as goal

-- the pairs of the pieces that are left are still to be added
abbrev pub invariant-loop-two : goal.invariant-loop-two
invariant-loop-two l = record {
  two : windows_size l.two-iterator ≡ 2;
  same : map string_bytes l.names.items ++ pairs (map (λ part. part.now) (windows_rest l.two-iterator))
      ≡ map string_bytes l.initial.names.items ++ pairs (map (λ part. part.now) l.fn.parts);
}
