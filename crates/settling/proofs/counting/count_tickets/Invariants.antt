use Rattle.std.proofs.Common.{◌≡◌, ◌+◌, ◌==◌, ℕ, length, take, count_by}
use Rattle.settling.specs.Counts.{CountsFrom}
use Rattle.settling.proofs.counting.count_tickets.Given as goal

abbrev pub invariant-loop-ticket : goal.invariant-loop-ticket
invariant-loop-ticket l = record {
  len : length l.counts ≡ length l.initial.counts;
  counts : (times : ℕ → ℕ) → CountsFrom l.opening times l.initial.counts → CountsFrom l.opening (λ p. times p + count_by (λ t. t.place == p) (take l.ticket-index l.tickets)) l.counts;
}
