-- The words of an order to a node and of a question about a transaction: as the node's operator writes them, and as a
-- script does, with the node's name.
use Rattle.std.specs.Prelude.{◌≡◌, ◌≤◌, ℕ, Bool, true, false, List, [], ◌∷◌, ◌++◌, codes, decimal, map}
use Rattle.std.specs.Str.{IsUtf8}
use Rattle.units.specs.Block.{raw_text}
use Rattle.units.specs.Code.{code_text, node_text}
use Rattle.units.specs.declared.code.Node.{Node}
use Rattle.units.specs.declared.code.Node.TheVariants.{Itl}
use Rattle.status.specs.Id.{id_text}
use Rattle.status.specs.Moment.{IsMomentText}
use Rattle.status.specs.Order.{IsOrder}
use Rattle.status.specs.Status.{status_text}
use Rattle.status.specs.declared.moment.Moment.{Moment}
use Rattle.wire.specs.declared.input.Input.{Input}
use Rattle.wire.specs.declared.input.Input.TheVariants.{Propose, Request, OpenAccount, CloseAccount, Ack, CleanUp, Eligible, Received}
use Rattle.input_lines.specs.Words.{AreCut}
use Rattle.input_lines.specs.declared.instruction.Instruction.{Instruction}
use Rattle.input_lines.specs.declared.instruction.Instruction.TheVariants.{Order, Status, Until}

abbrev pub yes_text : Bool → List ℕ
yes_text true = codes "yes"
yes_text false = codes "no"

-- the greatest number of times that a line may ask
abbrev pub most_turns : ℕ
most_turns = 1_000_000

-- these words and one more, which is a text of the moment. A moment is one word: it has no space in it
pub record AreWithMoment (words front : List (List ℕ)) (moment : Moment) : Type 0 where
  pub text : List ℕ
  pub spelled : words ≡ front ++ text ∷ []
  pub names : IsMomentText text moment

-- ---- without the node's name

-- a node takes acknowledgements and received messages by itself
abbrev pub AreOrderWords : List (List ℕ) → Input → Type 0
AreOrderWords words (Propose o) = (words ≡ codes "propose" ∷ decimal o.account ∷ code_text o.acquirer ∷ decimal o.to_account ∷ map raw_text o.units) × IsOrder o
AreOrderWords words (Request id) = words ≡ codes "request" ∷ id_text id ∷ []
AreOrderWords words (OpenAccount account) = words ≡ codes "open" ∷ decimal account.value ∷ []
AreOrderWords words (CloseAccount account) = words ≡ codes "close" ∷ decimal account.value ∷ []
AreOrderWords words (CleanUp moment) = AreWithMoment words (codes "clean-up" ∷ []) moment
AreOrderWords words (Eligible registry may) = words ≡ codes "eligible" ∷ code_text registry ∷ yes_text may ∷ []
AreOrderWords words (Ack key) = ⊥
AreOrderWords words (Received message moment) = ⊥

abbrev pub AreInstructionWords : List (List ℕ) → Instruction → Type 0
AreInstructionWords words (Order input) = AreOrderWords words input
AreInstructionWords words (Status id) = words ≡ codes "status" ∷ id_text id ∷ []
AreInstructionWords words (Until id status turns) = (words ≡ codes "until" ∷ id_text id ∷ status_text status ∷ decimal turns ∷ []) × (1 ≤ turns) × (turns ≤ most_turns)

-- the line, without its newline, is UTF-8 and its words write the order or the question
pub record IsInstruction (line : List ℕ) (instruction : Instruction) : Type 0 where
  pub words : List (List ℕ)
  pub utf8 : IsUtf8 line
  pub cut : AreCut line words
  pub told : AreInstructionWords words instruction

-- ---- with the node's name

-- the node's name stands after the first of these words
pub record AreNamed (words : List (List ℕ)) (n : Node) (instruction : Instruction) : Type 0 where
  pub first : List ℕ
  pub others : List (List ℕ)
  pub spelled : words ≡ first ∷ node_text n ∷ others
  pub told : AreInstructionWords (first ∷ others) instruction

-- only the log takes clean-ups and eligibilities, and no name stands in their lines
abbrev pub AreScriptWords : List (List ℕ) → Node → Instruction → Type 0
AreScriptWords words n (Order (CleanUp moment)) = (n ≡ Itl) × AreInstructionWords words (Order (CleanUp moment))
AreScriptWords words n (Order (Eligible registry may)) = (n ≡ Itl) × AreInstructionWords words (Order (Eligible registry may))
AreScriptWords words n instruction = AreNamed words n instruction
