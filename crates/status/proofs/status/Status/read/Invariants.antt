use Rattle.std.proofs.Common.{◌≡◌, ◌<◌, ℕ, get_or}
use Rattle.status.specs.declared.status.Status.TheVariants.{Proposed}
use Rattle.status.specs.Status.{status_text}
use Rattle.status.proofs.status.Status.read.Given as goal

-- none of the statuses so far has this name
abbrev pub invariant-loop-status : goal.invariant-loop-status
invariant-loop-status l = (n : ℕ) → n < l.status-index → l.text ≡ status_text (get_or l.status-items n Proposed) → ⊥
