-- The transactions that a clean-up cancels, read off the set of those that stand Checked. No public contract cites it.
use Rattle.std.specs.Prelude.{◌≡◌, ℕ, ◌+◌, ◌≤◌, List, ◌∷◌, ◌++◌, map}
use Rattle.std.specs.List.{AllByRecursion}
use Rattle.units.specs.Limits.{clean_up_age}
use Rattle.status.specs.declared.id.TransactionId.{TransactionId}
use Rattle.log_core.specs.declared.waiting.Waiting.{Waiting}

-- it has stood Checked for a day at that moment
abbrev pub IsAged : ℕ → Waiting → Type 0
IsAged moment w = w.since.seconds + clean_up_age ≤ moment

-- these are the transactions at the front, up to the first one that hasn't stood Checked for a day
pub record AreAged (moment : ℕ) (keys : List Waiting) (ids : List TransactionId) : Type 0 where
  pub front : List Waiting
  pub rest : List Waiting
  pub parts : keys ≡ front ++ rest
  pub aged : AllByRecursion (IsAged moment) front
  pub young : (w : Waiting) (more : List Waiting) → rest ≡ w ∷ more → IsAged moment w → ⊥
  pub held : map (λ w. w.id) front ≡ ids
