-- Connections that wait for a line.
use Rattle.std.specs.Prelude.{◌≡◌, ℕ, ◌<◌, ◌+◌, ◌-◌, ◌⊎◌, nat_le, nat_lt, ◌*◌, Bool, true, Option, None, Some, List, [], ◌∷◌, ◌++◌, length, drop, if◌then◌else◌}
use Rattle.std.specs.BTreeMap.{is_at}
use Rattle.std.specs.Map.{remove_entry}
use Rattle.std.specs.Ordering.{nat_cmp}
use Rattle.std.specs.List.{AllByRecursion, AllByRecursion-prop}
use Rattle.std.specs.Coded.{le_prop}
use Rattle.std.specs.Time.{instant_nanos}
use Rattle.std.specs.declared.time.Instant.{Instant}
use Rattle.connections.specs.declared.waiting.TheConstants.{LONGEST_LINE_TIME, MOST_CONNECTIONS}
use Rattle.connections.specs.declared.waiting.Waiter.{Waiter}
use Rattle.connections.specs.declared.waiting.Ready.{Ready}

-- whether it has waited longer than `LONGEST_LINE_TIME` seconds
abbrev pub is_late : Instant → Instant → Bool
is_late now since = nat_lt (LONGEST_LINE_TIME * 1_000_000_000) (instant_nanos now - instant_nanos since)

-- how many nanoseconds are left until it has waited for `LONGEST_LINE_TIME` seconds
abbrev pub nanos_left : Instant → Instant → ℕ
nanos_left now since = LONGEST_LINE_TIME * 1_000_000_000 - (instant_nanos now - instant_nanos since)

-- each number is below n
abbrev pub AreBelow : {X : Type 0} → ℕ → List (ℕ × X) → Type 0
AreBelow n es = AllByRecursion (λ e. e.0 < n) es

-- a proof of this is unique
pub AreBelow-prop : {X : Type 0} (n : ℕ) (es : List (ℕ × X)) → IsProp (AreBelow n es)
AreBelow-prop n es = AllByRecursion-prop (λ e. e.0 < n) (λ e. le_prop) es

module _ {T : Type 0} where
  -- a connection that began to wait then
  abbrev pub begun : T → Instant → Waiter T
  begun connection since = record { connection = connection; since = since }

  -- the connection that waits
  abbrev pub connection_of : Waiter T → T
  connection_of w = w.connection

  -- a connection; a session is to read that many bytes of it
  abbrev pub line_of : ℕ → Waiter T → Ready T
  line_of count w = record { connection = w.connection; length = count }

  -- the number of the first of those that wait, if it is late
  abbrev pub first_late : Instant → List (ℕ × Waiter T) → Option ℕ
  first_late now [] = None
  first_late now (e ∷ es) = if is_late now e.1.since then Some e.0 else None

  -- how many nanoseconds are left until the first of those that wait is late; all of them if none waits
  abbrev pub time_left : Instant → List (ℕ × Waiter T) → ℕ
  time_left now [] = LONGEST_LINE_TIME * 1_000_000_000
  time_left now (e ∷ es) = nanos_left now e.1.since

  -- those that go on waiting once a further connection comes, while that many others have sent a line
  abbrev pub left_for_one : List (ℕ × Waiter T) → ℕ → List (ℕ × Waiter T)
  left_for_one es lines = if nat_le MOST_CONNECTIONS (length es + lines) then drop 1 es else es

  -- the number of the first of those that wait
  abbrev pub first_number : List (ℕ × Waiter T) → Option ℕ
  first_number [] = None
  first_number (e ∷ es) = Some e.0

  -- at most the connection with that number is gone
  abbrev pub SparesOthers : ℕ → List (ℕ × Waiter T) → List (ℕ × Waiter T) → Type 0
  SparesOthers number old new = (new ≡ old) ⊎ (new ≡ remove_entry (is_at (nat_cmp number)) old)

  -- these waited, and `lines` others had a line: now one more may wait, by that number; no public contract cites it
  abbrev pub MayHold : T → Instant → ℕ → ℕ → List (ℕ × Waiter T) → List (ℕ × Waiter T) → Type 0
  MayHold connection since number lines old new =
      (new ≡ left_for_one old lines) ⊎ (new ≡ left_for_one old lines ++ (number, begun connection since) ∷ [])

  -- the first ones are no longer there, and each of them was late
  abbrev pub WereLate : Instant → List (ℕ × Waiter T) → List (ℕ × Waiter T) → List (ℕ × Waiter T) → Type 0
  WereLate now gone old new = (old ≡ gone ++ new) × AllByRecursion (λ e. is_late now e.1.since ≡ true) gone

  -- late connections at the front are no longer there: all of them, or `most`
  abbrev pub EndsLate : Instant → ℕ → List (ℕ × Waiter T) → List (ℕ × Waiter T) → Type 0
  EndsLate now most old new =
      (gone : List (ℕ × Waiter T)) × WereLate now gone old new × ((length gone ≡ most) ⊎ (first_late now new ≡ None))
