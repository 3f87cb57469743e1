-- A script: lines that each give an order or ask a question; and the first fault of an input that is no script.
use Rattle.std.specs.Prelude.{◌≡◌, ◌⊎◌, ◌<◌, ◌+◌, ℕ, List, [], length, Option}
use Rattle.input_lines.specs.Lines.{AreLines, IsFaultAfter}
use Rattle.streams.specs.Inputs.{longest_input, Takes}
use Rattle.command_faults.specs.declared.fault.Cause.{Cause}
use Rattle.command_faults.specs.declared.fault.Cause.TheVariants.{Truncated}
use Rattle.command_faults.specs.declared.fault.OpFault.{OpFault}
use Rattle.command_faults.specs.declared.fault.OpFault.TheVariants.{Input, Read, NoMemory}
use Rattle.input_lines.specs.ScriptLines.{IsScriptLine}
use Rattle.input_lines.specs.declared.script_line.ScriptLine.{ScriptLine}

-- all of an input was read; it has at least one line, and the lines write these
pub record ReadsScript (old new : Option (List ℕ)) (lines : List ScriptLine) : Type 0 where
  pub input : List ℕ
  pub taken : Takes old new input
  pub some : 0 < length input
  pub lines_are : AreLines IsScriptLine input longest_input lines

-- the first fault of the lines, the first of which is line 1
abbrev pub IsFirstFault : List ℕ → ℕ → Cause → Type 0
IsFirstFault input line cause = (good : ℕ) × (line ≡ good + 1) × IsFaultAfter IsScriptLine input longest_input good cause

-- there is no line
pub record HasNoLine (input : List ℕ) (line : ℕ) (cause : Cause) : Type 0 where
  pub empty : input ≡ []
  pub number : line ≡ 1
  pub truncated : cause ≡ Truncated

pub record Finds (old new : Option (List ℕ)) (line : ℕ) (cause : Cause) : Type 0 where
  pub input : List ℕ
  pub taken : Takes old new input
  pub fault : HasNoLine input line cause ⊎ IsFirstFault input line cause

-- why no script was read
abbrev pub FailsToReadScript : OpFault → (old new : Option (List ℕ)) → Type 0
FailsToReadScript (Input line cause) r s = Finds r s line cause
FailsToReadScript Read r s = Unit {0}
FailsToReadScript NoMemory r s = Unit {0}
FailsToReadScript _ r s = ⊥

-- ---- what the code follows; no public contract cites what stands below

abbrev pub IsScriptFault : List ℕ → OpFault → Type 0
IsScriptFault input (Input line cause) = IsFirstFault input line cause
IsScriptFault input NoMemory = Unit {0}
IsScriptFault input _ = ⊥
