-- The first line that was not carried out, where no line or no answer is left.
use Rattle.std.proofs.Common.{◌≡◌, ◌⊎◌, ℕ, List, [], ◌∷◌, None, inl, inr, refl}
use Rattle.input_lines.specs.declared.script_line.ScriptLine.{ScriptLine}
use Rattle.serving.specs.Answers.{first_undone}
use Rattle.serving.specs.declared.answer.ScriptAnswer.{ScriptAnswer}

pub none_left : (n : ℕ) (lines : List ScriptLine) (answers : List ScriptAnswer) → (lines ≡ []) ⊎ (answers ≡ []) → first_undone n lines answers ≡ None
none_left n [] answers over = refl
none_left n (l ∷ lines) [] over = refl
none_left n (l ∷ lines) (answer ∷ answers) (inl none) = absurd (cc (none))
none_left n (l ∷ lines) (answer ∷ answers) (inr none) = absurd (cc (none))
