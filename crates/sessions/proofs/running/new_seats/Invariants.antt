use Rattle.std.proofs.Common.{◌≡◌, [], All, vec_len}
use Rattle.sessions.proofs.running.new_seats.Given as goal

abbrev pub invariant-loop-made : goal.invariant-loop-made
invariant-loop-made l = (vec_len l.seats ≡ l.made) × All (λ s. (s.tickets ≡ []) × (s.notes ≡ [])) l.seats.items
