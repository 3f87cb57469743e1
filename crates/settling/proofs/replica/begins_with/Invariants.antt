use Rattle.std.proofs.Common.{◌≡◌, take}
use Rattle.settling.proofs.replica.begins_with.Given as goal

abbrev pub invariant-loop-k : goal.invariant-loop-k
invariant-loop-k l = take l.k l.journal ≡ take l.k l.records
