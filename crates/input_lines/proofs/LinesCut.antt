-- A line whose words write nothing writes nothing, since it is cut into words in one way.
use Rattle.std.proofs.Common.{ℕ, List, subst}
use Rattle.units.specs.declared.code.Node.{Node}
use Rattle.input_lines.specs.Instructions.{AreInstructionWords, AreScriptWords, IsInstruction}
use Rattle.input_lines.specs.ScriptLines.{IsScriptLine}
use Rattle.input_lines.specs.Words.{AreCut}
use Rattle.input_lines.specs.declared.instruction.Instruction.{Instruction}
use Rattle.input_lines.specs.declared.script_line.ScriptLine.{ScriptLine}
use Rattle.input_lines.proofs.SpacedWords.{one_cut}

module _ (line : List ℕ) (words : List (List ℕ)) (cut : AreCut line words) where
  pub no_instruction_line : ((i : Instruction) → AreInstructionWords words i → ⊥) → (i : Instruction) → IsInstruction line i → ⊥
  no_instruction_line never i is = never i (subst (λ w. AreInstructionWords w i) (one_cut line is.words words is.cut cut) is.told)

  pub no_script_line : ((n : Node) (i : Instruction) → AreScriptWords words n i → ⊥) → (l : ScriptLine) → IsScriptLine line l → ⊥
  no_script_line never l is = never l.node l.instruction (subst (λ w. AreScriptWords w l.node l.instruction) (one_cut line is.words words is.cut cut) is.told)
