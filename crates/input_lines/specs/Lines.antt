-- The lines of an input, each with a newline at its end.
use Rattle.std.specs.Prelude.{◌≡◌, ℕ, zero, suc, ◌+◌, ◌-◌, ◌<◌, ◌≤◌, List, [], ◌∷◌, ◌++◌, length, ◌⊎◌}
use Rattle.units.specs.Text.{IsFreeOf}
use Rattle.command_faults.specs.declared.fault.Cause.{Cause}
use Rattle.command_faults.specs.declared.fault.Cause.TheVariants.{Order, Truncated, TooLong}
use Rattle.command_faults.specs.declared.fault.OpFault.{OpFault}
use Rattle.command_faults.specs.declared.fault.OpFault.TheVariants.{Input, NoMemory}
use Rattle.streams.specs.Inputs.{longest_input_line}

-- up to their first newline the bytes are `line`, and after it `rest`
pub record Begins (bytes line rest : List ℕ) : Type 0 where
  pub spelled : bytes ≡ line ++ 10 ∷ rest
  pub free : IsFreeOf 10 line

-- the first line of the bytes, within both limits. `room` is the number of bytes that the input may still have
pub record IsLine (bytes : List ℕ) (room : ℕ) (line rest : List ℕ) : Type 0 where
  pub begins : Begins bytes line rest
  pub short : length line ≤ longest_input_line
  pub within : length line + 1 ≤ room

-- the first line is over its limit, or contains the first byte over the limit of the input, which may be its newline. A
-- line without a newline goes on to the end of the bytes
abbrev pub IsTooLong : List ℕ → ℕ → Type 0
IsTooLong bytes room =
    ((line rest : List ℕ) × Begins bytes line rest × ((longest_input_line < length line) ⊎ (room < length line + 1)))
    ⊎ (IsFreeOf 10 bytes × ((longest_input_line < length bytes) ⊎ (room < length bytes)))

-- there is no newline, and no limit is exceeded
pub record IsTruncated (bytes : List ℕ) (room : ℕ) : Type 0 where
  pub free : IsFreeOf 10 bytes
  pub short : length bytes ≤ longest_input_line
  pub within : length bytes ≤ room

-- the fault of the first line
abbrev pub IsLineFault : List ℕ → ℕ → Cause → Type 0
IsLineFault bytes room TooLong = IsTooLong bytes room
IsLineFault bytes room Truncated = IsTruncated bytes room
IsLineFault bytes room _ = ⊥

-- ---- lines that each write something

-- the number of bytes that an input may still have after a line
abbrev pub room_after : ℕ → List ℕ → ℕ
room_after room line = room - (length line + 1)

-- `Writes`: the relation between a line, without its newline, and the thing that it writes
module _ {X : Type 0} (Writes : List ℕ → X → Type 0) where
  -- the bytes are lines that write these, one each
  abbrev pub AreLines : List ℕ → ℕ → List X → Type 0
  AreLines bytes room [] = bytes ≡ []
  AreLines bytes room (x ∷ xs) = (line : List ℕ) × (rest : List ℕ) × IsLine bytes room line rest × Writes line x × AreLines rest (room_after room line) xs

  -- the first line writes nothing
  pub record WritesNothing (bytes : List ℕ) (room : ℕ) (cause : Cause) : Type 0 where
    pub line : List ℕ
    pub rest : List ℕ
    pub begins : IsLine bytes room line rest
    pub order : cause ≡ Order
    pub none : (x : X) → Writes line x → ⊥

  -- after that number of lines that write something comes the first line with a fault
  abbrev pub IsFaultAfter : List ℕ → ℕ → ℕ → Cause → Type 0
  IsFaultAfter bytes room zero cause = (0 < length bytes) × (IsLineFault bytes room cause ⊎ WritesNothing bytes room cause)
  IsFaultAfter bytes room (suc good) cause =
      (line : List ℕ) × (rest : List ℕ) × (x : X) × IsLine bytes room line rest × Writes line x × IsFaultAfter rest (room_after room line) good cause

  -- why the next line, which has that number, was not read
  abbrev pub IsNextFault : List ℕ → ℕ → ℕ → OpFault → Type 0
  IsNextFault bytes room number (Input line cause) = (line ≡ number) × (IsLineFault bytes room cause ⊎ WritesNothing bytes room cause)
  IsNextFault bytes room number NoMemory = Unit {0}
  IsNextFault bytes room number _ = ⊥
