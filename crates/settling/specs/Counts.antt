-- Counts of how often each place since an opening is named; a count of two also stands for more. No public contract
-- cites it.
use Rattle.std.specs.Prelude.{◌≡◌, ◌+◌, ◌<◌, ℕ, List, length, min, slice_index_or}

-- the counts are those of the places from the opening on
abbrev pub CountsFrom : ℕ → (ℕ → ℕ) → List ℕ → Type 0
CountsFrom opening times counts = (k : ℕ) → k < length counts → slice_index_or counts k 0 ≡ min 2 (times (opening + k))
