use Rattle.std.proofs.Common.{◌≡◌, length, take}
use Rattle.tags.specs.Hmac.{xor_each}
use Rattle.tags.proofs.hashing.xor_each.Given as goal

abbrev pub invariant-loop-i : goal.invariant-loop-i
invariant-loop-i l = record { long : length l.combined ≡ 64; done : take l.i l.combined ≡ xor_each l.pad (take l.i l.block) }
