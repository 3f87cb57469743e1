-- Which lines of a script were carried out: lines and answers as values.
use Rattle.std.proofs.Common.{◌≡◌, List, [], ◌∷◌, true, false, None, Some, refl}
use Rattle.status.specs.declared.status.Status.TheVariants.{Proposed, Completed}
use Rattle.protocol.specs.Input.TheVariants as input
use Rattle.protocol.specs.declared.node_core.Stepped.TheVariants.{Recorded, Repeat, Late}
use Rattle.protocol.proofs.WorkedScheme.{nz_node, nz1}
use Rattle.node_state.specs.declared.notes.Told.TheVariants.{Step, Status, Refused}
use Rattle.input_lines.specs.declared.instruction.Instruction.{Instruction}
use Rattle.input_lines.specs.declared.instruction.Instruction.TheVariants.{Order, Status as Ask, Until}
use Rattle.input_lines.specs.declared.script_line.ScriptLine.{ScriptLine}
use Rattle.serving.specs.Answers.{first_undone, is_carried_out}
use Rattle.serving.specs.declared.answer.ScriptAnswer.{ScriptAnswer}
use Rattle.serving.specs.declared.answer.ScriptAnswer.TheVariants.{NotPossible, Told}

abbrev order : Instruction
order = Order (input.Request nz1)

abbrev question : Instruction
question = Ask nz1

-- it waits until the transaction is completed
abbrev wait : Instruction
wait = Until nz1 Completed 5

abbrev recorded : ScriptAnswer
recorded = Told (Step (Recorded 4))

abbrev refused : ScriptAnswer
refused = Told (Refused (record { code = 105 }))

abbrev proposed : ScriptAnswer
proposed = Told (Status (Some Proposed))

abbrev completed : ScriptAnswer
completed = Told (Status (Some Completed))

abbrev unknown : ScriptAnswer
unknown = Told (Status None)

-- ---- one line

pub orders_carried_out : (is_carried_out order recorded ≡ true) × (is_carried_out order (Told (Step Repeat)) ≡ true) × (is_carried_out order (Told (Step Late)) ≡ true)
orders_carried_out = (refl, refl, refl)

pub orders_not_carried_out : (is_carried_out order refused ≡ false) × (is_carried_out order NotPossible ≡ false)
orders_not_carried_out = (refl, refl)

-- whatever the status is
pub questions_carried_out : (is_carried_out question proposed ≡ true) × (is_carried_out question completed ≡ true) × (is_carried_out question unknown ≡ true)
questions_carried_out = (refl, refl, refl)

pub questions_not_carried_out : (is_carried_out question refused ≡ false) × (is_carried_out question NotPossible ≡ false)
questions_not_carried_out = (refl, refl)

pub waited_for_it : is_carried_out wait completed ≡ true
waited_for_it = refl

pub waited_in_vain : (is_carried_out wait proposed ≡ false) × (is_carried_out wait unknown ≡ false) × (is_carried_out wait refused ≡ false) × (is_carried_out wait NotPossible ≡ false)
waited_in_vain = (refl, refl, refl, refl)

-- ---- a script

abbrev at_nz : Instruction → ScriptLine
at_nz i = record { node = nz_node; instruction = i }

abbrev lines : List ScriptLine
lines = at_nz question ∷ at_nz order ∷ at_nz wait ∷ at_nz order ∷ []

pub all_carried_out : first_undone 1 lines (unknown ∷ recorded ∷ completed ∷ recorded ∷ []) ≡ None
all_carried_out = refl

pub no_lines : first_undone 1 [] [] ≡ None
no_lines = refl

-- the first of two, and not the last
pub third_of_four : first_undone 1 lines (unknown ∷ recorded ∷ proposed ∷ refused ∷ []) ≡ Some 3
third_of_four = refl

-- the lines are counted from 1
pub first_of_four : first_undone 1 lines (refused ∷ recorded ∷ completed ∷ recorded ∷ []) ≡ Some 1
first_of_four = refl

pub last_of_four : first_undone 1 lines (unknown ∷ recorded ∷ completed ∷ NotPossible ∷ []) ≡ Some 4
last_of_four = refl

-- the first of these lines has the given number
pub numbered_from_seven : first_undone 7 (at_nz order ∷ at_nz wait ∷ []) (recorded ∷ unknown ∷ []) ≡ Some 8
numbered_from_seven = refl

-- a line that has no answer counts as none
pub without_answer : first_undone 1 (at_nz order ∷ at_nz question ∷ []) (recorded ∷ []) ≡ None
without_answer = refl
