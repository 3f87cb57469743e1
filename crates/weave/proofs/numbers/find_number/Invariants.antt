use Rattle.std.proofs.Common.{◌<◌, ℕ, get_or}
use Rattle.weave.specs.Steps.{HasMessage}
use Rattle.weave.proofs.numbers.find_number.Given as goal

abbrev pub invariant-loop-number : goal.invariant-loop-number
invariant-loop-number l = (k : ℕ) → k < l.number-index → HasMessage l.world.bag l.message (get_or l.numbers k 0) → ⊥
