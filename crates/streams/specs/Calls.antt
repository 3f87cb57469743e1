-- How often a reader or a writer was called, how those calls went, and when they failed. Counts wrap around to 0 after
-- the greatest number of 64 bits.
use Rattle.std.specs.Prelude.{◌≡◌, ◌⊎◌, ◌≤◌, ◌+◌, ◌%◌, ◌^◌, ℕ, Result, Ok, Err}
use Rattle.streams.specs.declared.calls.CallFault.{CallFault}
use Rattle.streams.specs.declared.calls.CallFault.TheVariants.{Interrupted, Failed}
use Rattle.streams.specs.declared.calls.Calls.{Calls}
use Rattle.streams.specs.declared.whole.ReadFault.{ReadFault}
use Rattle.streams.specs.declared.whole.ReadFault.TheVariants as reading

-- a count after one more
abbrev pub next : ℕ → ℕ
next n = (n + 1) % 2 ^ 64

-- a count after n more
abbrev pub GoesUp : ℕ → ℕ → ℕ → Type 0
GoesUp n old new = new % 2 ^ 64 ≡ (old + n) % 2 ^ 64

-- before the first call
abbrev pub no_calls : Calls
no_calls = record { count = 0; failures = 0; interruptions = 0 }

-- how often an input is read at most
abbrev pub most_reads : ℕ
most_reads = 16_777_217

-- how many interrupted calls count as a fault
abbrev pub most_interruptions : ℕ
most_interruptions = 20_000

-- one call failed; or none did, and `most` calls were interrupted
abbrev pub FailsAfter : ℕ → Calls → Calls → Type 0
FailsAfter most old new = (new.failures ≡ next old.failures) ⊎ ((new.failures ≡ old.failures) × GoesUp most old.interruptions new.interruptions)

-- one call failed; or none did, and too many calls were interrupted
abbrev pub Fails : Calls → Calls → Type 0
Fails old new = FailsAfter most_interruptions old new

-- a read failed, or there were as many reads as are allowed; or memory ran out, while no read had failed
abbrev pub IsReadingFault : ReadFault → Type 0
IsReadingFault (reading.Read calls) = (calls.failures ≡ 1) ⊎ (most_reads ≤ calls.count)
IsReadingFault (reading.NoMemory calls) = calls.failures ≡ 0

-- the counts after one more call, which returned that
abbrev pub Counts : Calls → Calls → Result ℕ CallFault → Type 0
Counts old new (Ok n) = (new.count ≡ next old.count) × (new.failures ≡ old.failures) × (new.interruptions ≡ old.interruptions)
Counts old new (Err Interrupted) = (new.count ≡ next old.count) × (new.failures ≡ old.failures) × (new.interruptions ≡ next old.interruptions)
Counts old new (Err Failed) = (new.count ≡ next old.count) × (new.failures ≡ next old.failures) × (new.interruptions ≡ old.interruptions)

-- no call failed; `left` more calls could be interrupted at first, and `left'` now
pub record GoesOn (left left' : ℕ) (old new : Calls) : Type 0 where
  pub sound : new.failures ≡ old.failures
  pub spared : (new.interruptions + left') % 2 ^ 64 ≡ (old.interruptions + left) % 2 ^ 64

-- ---- what the code follows; no public contract cites what stands below

-- a fault is counted, and nothing else has changed
abbrev pub CountsFault : Calls → Calls → CallFault → Type 0
CountsFault old new Interrupted = new ≡ record old { interruptions = next old.interruptions }
CountsFault old new Failed = new ≡ record old { failures = next old.failures }
