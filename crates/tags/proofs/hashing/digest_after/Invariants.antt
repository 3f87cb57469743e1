use Rattle.std.proofs.Common.{◌++◌, map, take}
use Rattle.std.specs.List.{concat}
use Rattle.sha2.specs.Hashers.{Holds256}
use Rattle.tags.proofs.hashing.digest_after.Given as goal

-- the hasher holds the block and the parts so far
abbrev pub invariant-loop-part : goal.invariant-loop-part
invariant-loop-part l = Holds256 l.hasher (l.block ++ concat (map (λ part. part.now) (take l.part-index l.parts)))
