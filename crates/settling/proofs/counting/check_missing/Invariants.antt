use Rattle.std.proofs.Common.{◌+◌, ◌<◌, ◌≤◌, ℕ}
use Rattle.settling.specs.Counts.{CountsFrom}
use Rattle.settling.proofs.counting.check_missing.Given as goal

abbrev pub invariant-loop-k : goal.invariant-loop-k
invariant-loop-k l = (times : ℕ → ℕ) → CountsFrom l.opening times l.counts → (place : ℕ) → l.opening ≤ place → place < l.opening + l.k → 0 < times place
