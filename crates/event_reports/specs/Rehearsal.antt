-- The input of a rehearsal: a scheme's line and event lines; and the first fault that an input has.
use Rattle.std.specs.Prelude.{◌≡◌, ℕ, ◌+◌, ◌<◌, ◌⊎◌, List, length, take, Option}
use Rattle.std.specs.Io.KnownBytes.{Appends, Keeps}
use Rattle.protocol.specs.declared.event.WorldEvent.{WorldEvent}
use Rattle.scheme.specs.Text.{IsSchemeText}
use Rattle.scheme.specs.declared.registries.Scheme.{Scheme}
use Rattle.command_faults.specs.declared.fault.Cause.{Cause}
use Rattle.command_faults.specs.declared.fault.OpFault.{OpFault}
use Rattle.command_faults.specs.declared.fault.OpFault.TheVariants.{Input, Read, Write, NoMemory}
use Rattle.input_lines.specs.EventLines.{IsEventLine}
use Rattle.input_lines.specs.Lines.{AreLines, IsFaultAfter, IsLine, IsLineFault, room_after}
use Rattle.command_faults.specs.SchemeFile.{IsSchemeFault}
use Rattle.streams.specs.Inputs.{longest_input, Takes}

-- ---- an input without a fault

-- the bytes are lines that write the events, one each
abbrev pub AreEvents : List ℕ → ℕ → List WorldEvent → Type 0
AreEvents bytes room events = AreLines IsEventLine bytes room events

-- the scheme's line, then the lines of the events
pub record IsRehearsal (input : List ℕ) (scheme : Scheme) (events : List WorldEvent) : Type 0 where
  pub first : List ℕ
  pub lines : List ℕ
  pub begins : IsLine input longest_input first lines
  pub scheme_is : IsSchemeText first scheme
  pub events_are : AreEvents lines (room_after longest_input first) events

-- ---- the first fault of an input

-- after that number of lines of events comes the first line with a fault
abbrev pub IsEventFault : List ℕ → ℕ → ℕ → Cause → Type 0
IsEventFault bytes room good cause = IsFaultAfter IsEventLine bytes room good cause

-- the fault is in line 1, or after the scheme's line and `good` lines of events
pub record IsFaultAfterEvents (input : List ℕ) (line : ℕ) (cause : Cause) : Type 0 where
  pub first : List ℕ
  pub lines : List ℕ
  pub scheme : Scheme
  pub good : ℕ
  pub begins : IsLine input longest_input first lines
  pub scheme_is : IsSchemeText first scheme
  pub number : line ≡ good + 2
  pub fault : IsEventFault lines (room_after longest_input first) good cause

pub record IsFirstFault (input : List ℕ) (line : ℕ) (cause : Cause) : Type 0 where
  pub number : line ≡ 1
  pub fault : IsLineFault input longest_input cause ⊎ ((first : List ℕ) × (lines : List ℕ) × IsLine input longest_input first lines × IsSchemeFault first cause)

-- the first line of the input that has a fault, and its fault
abbrev pub IsInputFault : List ℕ → ℕ → Cause → Type 0
IsInputFault input line cause = IsFirstFault input line cause ⊎ IsFaultAfterEvents input line cause

-- ---- the results of a rehearsal

-- all of the input was read, it has no fault, and `IsText` holds for its scheme, its events and the text
pub record Reports (IsText : Scheme → List WorldEvent → List ℕ → Type 0) (read_old read_new : Option (List ℕ)) (text : List ℕ) : Type 0 where
  pub input : List ℕ
  pub taken : Takes read_old read_new input
  pub scheme : Scheme
  pub events : List WorldEvent
  pub is : IsRehearsal input scheme events
  pub report : IsText scheme events text

-- the fault is the first one of the input that was read
pub record Finds (read_old read_new : Option (List ℕ)) (line : ℕ) (cause : Cause) : Type 0 where
  pub input : List ℕ
  pub taken : Takes read_old read_new input
  pub fault : IsInputFault input line cause

-- nothing was written, or some first bytes of the report, but not all of it
abbrev pub FailsSo : (Scheme → List WorldEvent → List ℕ → Type 0) → OpFault → (read_old read_new written_old written_new : Option (List ℕ)) → Type 0
FailsSo IsText (Input line cause) r s v w = Finds r s line cause × Keeps v w
FailsSo IsText Read r s v w = Keeps v w
FailsSo IsText NoMemory r s v w = Keeps v w
FailsSo IsText (Write count) r s v w = (text : List ℕ) × Reports IsText r s text × (count < length text) × Appends v w (take count text)
FailsSo IsText _ r s v w = ⊥

-- ---- what the code follows; no public contract cites what stands below

-- a fault of the input before the report is written
abbrev pub IsEarlyFault : List ℕ → OpFault → Type 0
IsEarlyFault input (Input line cause) = IsInputFault input line cause
IsEarlyFault input NoMemory = Unit {0}
IsEarlyFault input _ = ⊥

-- a fault of the event lines, the first of which is line 2
abbrev pub IsLinesFault : List ℕ → ℕ → OpFault → Type 0
IsLinesFault lines room (Input line cause) = (good : ℕ) × (line ≡ good + 2) × IsEventFault lines room good cause
IsLinesFault lines room NoMemory = Unit {0}
IsLinesFault lines room _ = ⊥
