use Rattle.std.proofs.Common.{◌≡◌, take, true}
use Rattle.explain.specs.Topics.{is_number}
use Rattle.explain.proofs.naming.has_digits_alone.Given as goal

abbrev pub invariant-loop-byte : goal.invariant-loop-byte
invariant-loop-byte l = is_number (take l.byte-index l.byte-items) ≡ true
