-- The lines of scripts.
use Rattle.std.specs.Prelude.{ℕ, List}
use Rattle.std.specs.Str.{IsUtf8}
use Rattle.input_lines.specs.Instructions.{AreScriptWords}
use Rattle.input_lines.specs.Words.{AreCut}
use Rattle.input_lines.specs.declared.script_line.ScriptLine.{ScriptLine}

-- the line, without its newline, is UTF-8 and its words write the order or the question to the node
pub record IsScriptLine (line : List ℕ) (written : ScriptLine) : Type 0 where
  pub words : List (List ℕ)
  pub utf8 : IsUtf8 line
  pub cut : AreCut line words
  pub told : AreScriptWords words written.node written.instruction
