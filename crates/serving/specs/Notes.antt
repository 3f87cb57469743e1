-- How often a script asked, and the result each time, by the notes of its seats.
use Rattle.std.specs.Prelude.{◌≡◌, ◌≢◌, ◌⊎◌, ◌<◌, ◌+◌, ℕ, true, false, max, All, List, [], ◌∷◌, ◌++◌, length, Some}
use Rattle.units.specs.declared.code.Node.{Node}
use Rattle.status.specs.declared.id.TransactionId.{TransactionId}
use Rattle.status.specs.declared.status.Status.{Status as AStatus}
use Rattle.protocol.specs.Claims.{IsEnd}
use Rattle.protocol.specs.declared.node_core.Stepped.TheVariants.{Recorded}
use Rattle.node_state.specs.Expected.{stopped}
use Rattle.node_state.specs.Telling.{is_unjudged}
use Rattle.node_state.specs.declared.notes.Asked.{Asked}
use Rattle.node_state.specs.declared.notes.Asked.TheVariants.{Take, Query}
use Rattle.node_state.specs.declared.notes.Note.{Note}
use Rattle.node_state.specs.declared.notes.Told.{Told}
use Rattle.node_state.specs.declared.notes.Told.TheVariants.{Step, Status, Refused}
use Rattle.replies.specs.Answers.{is_without_journal}
use Rattle.input_lines.specs.declared.instruction.Instruction.{Instruction}
use Rattle.input_lines.specs.declared.instruction.Instruction.TheVariants as instruction
use Rattle.input_lines.specs.declared.script_line.ScriptLine.{ScriptLine}
use Rattle.serving.specs.declared.answer.ScriptAnswer.{ScriptAnswer}
use Rattle.serving.specs.declared.answer.ScriptAnswer.TheVariants.{NotPossible, Told as Answered}

-- ---- the notes or tickets that the lines of a script leave at a node, line by line

-- a line leaves nothing where it is another node's or isn't possible
abbrev pub IsOfLine : {T : Type 0} (Of : ScriptLine → Told → List T → Type 0) → Node → ScriptLine → ScriptAnswer → List T → Type 0
IsOfLine Of n l NotPossible left = left ≡ []
IsOfLine Of n l (Answered told) left = (l.node ≡ n → Of l told left) × (l.node ≢ n → left ≡ [])

-- each line leaves its part, in the script's order
abbrev pub AreOfLines : {T : Type 0} (Of : ScriptLine → Told → List T → Type 0) → Node → List ScriptLine → List ScriptAnswer → List T → Type 0
AreOfLines {T} Of n (l ∷ ls) (answer ∷ answers) left = (first : List T) × (rest : List T) × (left ≡ first ++ rest) × IsOfLine Of n l answer first × AreOfLines Of n ls answers rest
AreOfLines Of n _ _ left = left ≡ []

-- ---- notes

-- one note, with that question and that result
abbrev pub IsNote : Asked → Told → List Note → Type 0
IsNote asked told notes = (note : Note) × (notes ≡ note ∷ []) × (note.asked ≡ asked) × (note.told ≡ told)

-- the notes that a question leaves, asked once: its result, unless the input was recorded or no journal judged it; and
-- a result that was returned before its node stopped may also have been noted
abbrev pub IsNoted : Asked → Told → List Note → Type 0
IsNoted asked (Step (Recorded place)) notes = notes ≡ []
IsNoted asked (Refused refusal) notes = (is_unjudged refusal.code ≡ false → IsNote asked (Refused refusal) notes) × (is_unjudged refusal.code ≡ true → (notes ≡ []) ⊎ ((refusal ≡ stopped) × ((told : Told) × IsNote asked told notes)))
IsNoted asked told notes = IsNote asked told notes

-- the transaction has that status, or one that never changes
abbrev pub HasOrEnds : AStatus → Told → Type 0
HasOrEnds status (Status (Some found)) = (found ≡ status) ⊎ IsEnd found
HasOrEnds status _ = ⊥

-- a script's line asked where the transaction stands, again and again, until it had that status or one that never
-- changes, or no journal judged the question, or it was asked as often as the line says
pub record IsAwaited (id : TransactionId) (status : AStatus) (turns : ℕ) (told : Told) (notes : List Note) : Type 0 where
  pub earlier : List Note
  pub last : List Note
  pub notes_are : notes ≡ earlier ++ last
  pub waited : All (λ (note : Note). (note.asked ≡ Query id) × (HasOrEnds status note.told → ⊥)) earlier
  pub noted : IsNoted (Query id) told last
  pub most : length earlier < max 1 turns
  pub over : HasOrEnds status told ⊎ ((is_without_journal told ≡ true) ⊎ (length earlier + 1 ≡ max 1 turns))

abbrev pub IsNotedOf : Instruction → Told → List Note → Type 0
IsNotedOf (instruction.Order input) told notes = IsNoted (Take input) told notes
IsNotedOf (instruction.Status id) told notes = IsNoted (Query id) told notes
IsNotedOf (instruction.Until id status turns) told notes = IsAwaited id status turns told notes

-- ---- what the code follows; no public contract cites what stands below

-- the notes are of the script's lines to the node, in the script's order
abbrev pub AreNotes : Node → List ScriptLine → List ScriptAnswer → List Note → Type 0
AreNotes n lines answers notes = AreOfLines (λ l. IsNotedOf l.instruction) n lines answers notes
