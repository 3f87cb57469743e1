-- The answers to the lines of a script, and when journals bear them out.
use Rattle.std.specs.Prelude.{◌≡◌, ℕ, ◌+◌, ◌&&◌, Bool, true, false, cond, List, [], ◌∷◌, ◌++◌, length, slice_get, Option, None, Some, codes, decimal}
use Rattle.units.specs.declared.code.Node.{Node}
use Rattle.protocol.specs.Input.{Input}
use Rattle.protocol.specs.Scheme.{Scheme}
use Rattle.protocol.specs.History.{is_status}
use Rattle.protocol.specs.Registries.{is_node}
use Rattle.protocol.specs.World.{is_order, opening}
use Rattle.protocol.specs.Outcomes.{outcome_of}
use Rattle.protocol.specs.declared.event.Outcome.TheVariants as outcome
use Rattle.protocol.specs.declared.node_core.Stepped.TheVariants.{Recorded, Repeat, Late}
use Rattle.settling.specs.Settling.{Bears}
use Rattle.node_state.specs.Telling.{is_unjudged}
use Rattle.node_state.specs.declared.notes.Asked.{Asked}
use Rattle.node_state.specs.declared.notes.Asked.TheVariants.{Take, Query}
use Rattle.node_state.specs.declared.notes.Told.{Told}
use Rattle.node_state.specs.declared.notes.Told.TheVariants.{Step, Status, Refused}
use Rattle.report.specs.ReportLines.{outcome_text, status_or_none}
use Rattle.input_lines.specs.declared.instruction.Instruction.{Instruction}
use Rattle.input_lines.specs.declared.instruction.Instruction.TheVariants as instruction
use Rattle.input_lines.specs.declared.script_line.ScriptLine.{ScriptLine}
use Rattle.serving.specs.declared.answer.ScriptAnswer.{ScriptAnswer}
use Rattle.serving.specs.declared.answer.ScriptAnswer.TheVariants.{NotPossible, Told as Answered}

-- ---- the question of an order or a question

abbrev pub asked_by : Instruction → Asked
asked_by (instruction.Order input) = Take input
asked_by (instruction.Status id) = Query id
asked_by (instruction.Until id status turns) = Query id

-- a node of that kind takes such an order; and each answers questions
abbrev pub takes : Scheme → Node → Instruction → Bool
takes scheme n (instruction.Order input) = is_order (opening scheme) n input
takes scheme n (instruction.Status id) = true
takes scheme n (instruction.Until id status turns) = true

-- the node is one of the scheme's, and takes such an order
abbrev pub is_possible : Scheme → Node → Instruction → Bool
is_possible scheme n i = is_node scheme n && takes scheme n i

-- ---- the texts of answers

abbrev pub told_text : Told → List ℕ
told_text (Step stepped) = outcome_text (outcome_of stepped)
told_text (Status status) = codes "status " ++ status_or_none status
told_text (Refused refusal) = outcome_text (outcome.Refused refusal.code)

abbrev pub answer_text : ScriptAnswer → List ℕ
answer_text NotPossible = outcome_text outcome.NotPossible
answer_text (Answered told) = told_text told

-- the answer to the script's line with that number
abbrev pub answer_line : ℕ → ScriptAnswer → List ℕ
answer_line n answer = decimal n ++ codes " " ++ answer_text answer ++ codes "\n"

-- the answers to the lines from that number on
abbrev pub answer_lines : ℕ → List ScriptAnswer → List ℕ
answer_lines n [] = []
answer_lines n (answer ∷ answers) = answer_line n answer ++ answer_lines (n + 1) answers

-- ---- the lines that were carried out

-- the order was recorded, or it changed nothing, since it came again or too late; or the question got its answer, and a
-- line that waits got the status that it waits for
abbrev pub is_carried_out : Instruction → ScriptAnswer → Bool
is_carried_out i NotPossible = false
is_carried_out i (Answered (Refused refusal)) = false
is_carried_out (instruction.Until id status turns) (Answered (Status found)) = is_status found status
is_carried_out i (Answered told) = true

-- the number of the first line that was not carried out, by its answer; the first of these lines has the given number
abbrev pub first_undone : ℕ → List ScriptLine → List ScriptAnswer → Option ℕ
first_undone n (l ∷ ls) (answer ∷ answers) = cond (is_carried_out l.instruction answer) (first_undone (n + 1) ls answers) (Some n)
first_undone n _ _ = None

-- ---- the results that journals bear out

-- the result is the expected one after some number of the first records of the journal
abbrev pub IsExpectedWithin : Scheme → Node → List Input → Asked → Told → Type 0
IsExpectedWithin scheme n journal asked told = (len : ℕ) × Bears scheme n journal (record { asked = asked; told = told; length = len })

-- the order is the journal's record at that place
abbrev pub IsRecordAt : List Input → ℕ → Asked → Type 0
IsRecordAt journal place (Take input) = slice_get journal place ≡ Some input
IsRecordAt journal place (Query id) = ⊥

-- the node's journal bears out the result; if the node had stopped, or memory ran out, nothing is said of it
abbrev pub IsBorne : Scheme → Node → List Input → Asked → Told → Type 0
IsBorne scheme n journal asked (Step (Recorded place)) = IsRecordAt journal place asked
IsBorne scheme n journal asked (Step Repeat) = IsExpectedWithin scheme n journal asked (Step Repeat)
IsBorne scheme n journal asked (Step Late) = IsExpectedWithin scheme n journal asked (Step Late)
IsBorne scheme n journal asked (Status status) = IsExpectedWithin scheme n journal asked (Status status)
IsBorne scheme n journal asked (Refused refusal) = is_unjudged refusal.code ≡ false → IsExpectedWithin scheme n journal asked (Refused refusal)

-- the line wasn't possible; or it was, and the journal of its node bears out the answer
abbrev pub IsAnswer : Scheme → (Node → List Input) → ScriptLine → ScriptAnswer → Type 0
IsAnswer scheme journals l NotPossible = is_possible scheme l.node l.instruction ≡ false
IsAnswer scheme journals l (Answered told) = (is_possible scheme l.node l.instruction ≡ true) × IsBorne scheme l.node (journals l.node) (asked_by l.instruction) told

-- each line has an answer with that property
pub record AreAnswers (Answers : ScriptLine → ScriptAnswer → Type 0) (lines : List ScriptLine) (answers : List ScriptAnswer) : Type 0 where
  pub count : length answers ≡ length lines
  pub each : (k : ℕ) (l : ScriptLine) (answer : ScriptAnswer) → slice_get lines k ≡ Some l → slice_get answers k ≡ Some answer → Answers l answer
