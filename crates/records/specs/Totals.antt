-- Counts of messages. No public contract cites it.
use Rattle.std.specs.Prelude.{ℕ, List, [], ◌∷◌}
use Rattle.records.specs.declared.record.Record.{Record}

-- the number of messages after the records, with the given number before
abbrev pub total : ℕ → List Record → ℕ
total before [] = before
total before (r ∷ rs) = total r.sends rs
