-- How long a sender pauses for a peer that it can't reach, and how its row of failures goes on.
use Rattle.std.specs.Prelude.{◌≡◌, ◌⊎◌, ◌+◌, ◌-◌, ◌^◌, ℕ, zero, suc, min}
use Rattle.sessions.specs.declared.senders.PassEnd.{PassEnd}
use Rattle.sessions.specs.declared.senders.PassEnd.TheVariants.{Done, Unreachable, NoMemory}

-- ---- what the code follows; no public contract cites what stands below

-- after that many failures in a row: one second after the first, twice as many after each further one, and 60 at most
abbrev pub pause_seconds : ℕ → ℕ
pause_seconds zero = 0
pause_seconds (suc n) = min 60 (2 ^ n)

-- one more failure in a row of that many; they are counted up to the greatest number of 32 bits
abbrev pub one_more : ℕ → ℕ
one_more failures = min (failures + 1) (2 ^ 32 - 1)

-- a row of that many failures goes on, or has ended
abbrev pub GoesOnOrEnds : ℕ → ℕ → Type 0
GoesOnOrEnds old new = (new ≡ old) ⊎ (new ≡ 0)

-- the row after a pass: if the pass ended with a failure, it is one more of the old row, or the first of a new one
abbrev pub RowAfter : ℕ → ℕ → PassEnd → Type 0
RowAfter old new Done = GoesOnOrEnds old new
RowAfter old new Unreachable = (new ≡ one_more old) ⊎ (new ≡ one_more 0)
RowAfter old new NoMemory = GoesOnOrEnds old new
