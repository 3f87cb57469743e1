use Rattle.std.proofs.Common.{◌≡◌, ◌+◌, ℕ, length, take}
use Rattle.settling.specs.Counts.{CountsFrom}
use Rattle.settling.specs.Covering.{times_named}
use Rattle.settling.proofs.counting.count_seats.Given as goal

abbrev pub invariant-loop-seat : goal.invariant-loop-seat
invariant-loop-seat l = record {
  len : length l.counts ≡ length l.initial.counts;
  counts : (times : ℕ → ℕ) → CountsFrom l.opening times l.initial.counts → CountsFrom l.opening (λ p. times p + times_named (take l.seat-index l.seats) p) l.counts;
}
