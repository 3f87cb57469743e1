-- The first fault of a script, at its next line.
use Rattle.std.proofs.Common.{◌≡◌, ◌<◌, ◌+◌, ◌∙◌, ℕ, List, length}
use Rattle.command_faults.specs.declared.fault.OpFault.{OpFault}
use Rattle.command_faults.specs.declared.fault.OpFault.TheVariants.{Input, Read, Write, Store, Stuck, Unsettled, Setup, Undone, NoMemory}
use Rattle.streams.specs.Inputs.{longest_input}
use Rattle.input_lines.proofs.LinesRead.{HasReadTo, read_fault}
use Rattle.input_lines.specs.ScriptLines.{IsScriptLine}
use Rattle.input_lines.specs.Lines.{IsNextFault}
use Rattle.input_lines.specs.Scripts.{IsScriptFault}
use Rattle.input_lines.specs.declared.script_line.ScriptLine.{ScriptLine}

pub next_fault : (lines rest : List ℕ) (room number : ℕ) (done : List ScriptLine) (f : OpFault) → HasReadTo IsScriptLine lines longest_input rest room done → 0 < length rest → number ≡ length done + 1
    → IsNextFault IsScriptLine rest room number f → IsScriptFault lines f
next_fault lines rest room number done (Input line cause) read some is wrong =
    (length done, wrong.0 ∙ is, read_fault IsScriptLine lines longest_input rest room done cause read (some, wrong.1))
next_fault lines rest room number done NoMemory read some is wrong = tt
next_fault lines rest room number done Read read some is wrong = absurd wrong
next_fault lines rest room number done (Write count) read some is wrong = absurd wrong
next_fault lines rest room number done (Store node fault) read some is wrong = absurd wrong
next_fault lines rest room number done (Stuck node place) read some is wrong = absurd wrong
next_fault lines rest room number done (Unsettled node) read some is wrong = absurd wrong
next_fault lines rest room number done (Setup fault) read some is wrong = absurd wrong
next_fault lines rest room number done (Undone line) read some is wrong = absurd wrong
