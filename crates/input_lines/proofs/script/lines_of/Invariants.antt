use Rattle.std.proofs.Common.{length}
use Rattle.streams.specs.Inputs.{longest_input}
use Rattle.input_lines.proofs.LinesRead.{HasReadTo}
use Rattle.input_lines.specs.ScriptLines.{IsScriptLine}
use Rattle.input_lines.proofs.script.lines_of.Given as goal

abbrev pub invariant-loop-rest : goal.invariant-loop-rest
invariant-loop-rest l = HasReadTo IsScriptLine l.bytes longest_input l.rest l.room l.lines.items

abbrev pub decreases-loop-rest : goal.decreases-loop-rest
decreases-loop-rest l = length l.rest
