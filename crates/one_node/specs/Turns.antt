-- The questions of a node's operator and of its clock, one after another, each with its result.
use Rattle.std.specs.Prelude.{◌≡◌, ◌<◌, ◌≤◌, ◌+◌, ℕ, true, false, List, [], ◌∷◌, ◌++◌, Option, Some, None, IfSome, codes, decimal, length}
use Rattle.units.specs.Limits.{longest_line}
use Rattle.units.specs.declared.code.Node.{Node}
use Rattle.units.specs.declared.code.Node.TheVariants.{Itl}
use Rattle.protocol.specs.Input.{Input}
use Rattle.protocol.specs.Input.TheVariants.{CleanUp}
use Rattle.protocol.specs.Moment.{Moment}
use Rattle.protocol.specs.Scheme.{Scheme}
use Rattle.node_state.specs.declared.notes.Asked.{Asked}
use Rattle.node_state.specs.declared.notes.Asked.TheVariants.{Take}
use Rattle.node_state.specs.declared.notes.Told.{Told}
use Rattle.input_lines.specs.Instructions.{IsInstruction}
use Rattle.input_lines.specs.declared.instruction.Instruction.{Instruction}
use Rattle.input_lines.specs.declared.instruction.Instruction.TheVariants.{Order}
use Rattle.input_lines.specs.declared.script_line.ScriptLine.{ScriptLine}
use Rattle.serving.specs.Answers.{answer_line, asked_by, is_possible}
use Rattle.serving.specs.declared.answer.ScriptAnswer.{ScriptAnswer}
use Rattle.serving.specs.declared.answer.ScriptAnswer.TheVariants.{NotPossible, Told as Answered}
use Rattle.one_node.specs.declared.answering.OperatorFault.{OperatorFault}
use Rattle.one_node.specs.declared.answering.OperatorFault.TheVariants as faults

pub data Turn : Type 0 where
  -- a line, the order or question that it writes, and its result
  Line : List ℕ → Instruction → ScriptAnswer → Turn
  -- a line that asks for nothing, for an export that failed or for a clean-up that is refused, and why
  Unread : List ℕ → OperatorFault → Turn
  -- a line that asks for an export, and how many records were exported
  Exported : List ℕ → ℕ → Turn
  -- a clean-up that the clock ordered at that moment, and the node's result
  Timed : Moment → Told → Turn

-- ---- the lines, and the results that were written

-- the lines, without their newlines
abbrev pub raw_lines : List Turn → List (List ℕ)
raw_lines [] = []
raw_lines (Line raw i answer ∷ turns) = raw ∷ raw_lines turns
raw_lines (Unread raw fault ∷ turns) = raw ∷ raw_lines turns
raw_lines (Exported raw count ∷ turns) = raw ∷ raw_lines turns
raw_lines (Timed moment told ∷ turns) = raw_lines turns

abbrev pub fault_word : OperatorFault → List ℕ
fault_word faults.Order = codes "order"
fault_word faults.TooLong = codes "too-long"
fault_word faults.Export = codes "export"
fault_word faults.Moment = codes "moment"

-- the result of the line with that number, which has that fault
abbrev pub fault_line : ℕ → OperatorFault → List ℕ
fault_line number fault = decimal number ++ codes " fault " ++ fault_word fault ++ codes "\n"

-- the result of the line with that number, for which that many records were exported
abbrev pub export_line : ℕ → ℕ → List ℕ
export_line number count = decimal number ++ codes " exported " ++ decimal count ++ codes "\n"

-- the results of the lines, the first with that number
abbrev pub answers_text : ℕ → List Turn → List ℕ
answers_text number [] = []
answers_text number (Line raw i answer ∷ turns) = answer_line number answer ++ answers_text (number + 1) turns
answers_text number (Unread raw fault ∷ turns) = fault_line number fault ++ answers_text (number + 1) turns
answers_text number (Exported raw count ∷ turns) = export_line number count ++ answers_text (number + 1) turns
answers_text number (Timed moment told ∷ turns) = answers_text number turns

-- ---- the questions

-- the order or question as a script's line, which has the node's name
abbrev pub line_to : Node → Instruction → ScriptLine
line_to n i = record { node = n; instruction = i }

-- the orders and questions to the node, those of the clock too
abbrev pub lines_of : Node → List Turn → List ScriptLine
lines_of n [] = []
lines_of n (Line raw i answer ∷ turns) = line_to n i ∷ lines_of n turns
lines_of n (Unread raw fault ∷ turns) = lines_of n turns
lines_of n (Exported raw count ∷ turns) = lines_of n turns
lines_of n (Timed moment told ∷ turns) = line_to n (Order (CleanUp moment)) ∷ lines_of n turns

-- the result of each
abbrev pub answers_of : List Turn → List ScriptAnswer
answers_of [] = []
answers_of (Line raw i answer ∷ turns) = answer ∷ answers_of turns
answers_of (Unread raw fault ∷ turns) = answers_of turns
answers_of (Exported raw count ∷ turns) = answers_of turns
answers_of (Timed moment told ∷ turns) = Answered told ∷ answers_of turns

-- the line asks for an export to that path
abbrev pub IsExportLine : List ℕ → List ℕ → Type 0
IsExportLine line path = line ≡ codes "export " ++ path

abbrev pub AsksExport : List ℕ → Type 0
AsksExport line = (path : List ℕ) × IsExportLine line path

-- which records a file at a path has
module _ (Holds : List ℕ → List Input → Type 0) where
  -- that many records were written into a file at the path of the line, and the journal begins with them
  pub record IsCarried (journal : List Input) (line : List ℕ) (count : ℕ) : Type 0 where
    pub path : List ℕ
    pub asks : IsExportLine line path
    pub records : List Input
    pub holds : Holds path records
    pub rest : List Input
    pub first : journal ≡ records ++ rest
    pub counts : count ≡ length records

-- ---- clean-ups and the clock

-- the moment of the clean-up that is ordered
abbrev pub clean_up_moment : Instruction → Option Moment
clean_up_moment (Order (CleanUp moment)) = Some moment
clean_up_moment _ = None

-- how many seconds ahead of the clock this moment may be: a day
abbrev pub most_ahead : ℕ
most_ahead = 86_400

-- the moments that the node's clock gave
module _ (tells : Moment → Type 0) where
  -- if a clean-up is ordered, its moment is at most a day ahead of the clock
  abbrev pub IsTimely : Instruction → Type 0
  IsTimely i = IfSome (clean_up_moment i) (λ moment. (now : Moment) × tells now × (moment.seconds ≤ now.seconds + most_ahead))

  -- a clean-up is ordered at a moment that is more than a day ahead of the clock
  abbrev pub IsAhead : Instruction → Type 0
  IsAhead i = (moment : Moment) × (now : Moment) × (clean_up_moment i ≡ Some moment) × tells now × (now.seconds + most_ahead < moment.seconds)

-- the node under the scheme, and what holds for each question and its result
module _ (scheme : Scheme) (n : Node) (Backs : Asked → Told → Type 0) where
  -- the node takes no such order, or it was asked
  abbrev pub IsAnswer : Instruction → ScriptAnswer → Type 0
  IsAnswer i NotPossible = is_possible scheme n i ≡ false
  IsAnswer i (Answered told) = (is_possible scheme n i ≡ true) × Backs (asked_by i) told

  -- the same; the moments that the node's clock gave; and what holds for an export
  module _ (tells : Moment → Type 0) (Carries : List ℕ → ℕ → Type 0) where
    abbrev pub IsTurn : Turn → Type 0
    IsTurn (Line raw i answer) = IsInstruction raw i × IsAnswer i answer × IsTimely tells i
    IsTurn (Unread raw faults.Order) = (i : Instruction) → IsInstruction raw i → ⊥
    IsTurn (Unread raw faults.TooLong) = longest_line < length raw
    IsTurn (Unread raw faults.Export) = AsksExport raw
    IsTurn (Unread raw faults.Moment) = (i : Instruction) × IsInstruction raw i × IsAhead tells i
    IsTurn (Exported raw count) = Carries raw count
    IsTurn (Timed moment told) = (n ≡ Itl) × tells moment × Backs (Take (CleanUp moment)) told
