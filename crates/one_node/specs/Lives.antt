-- The life of a node that stands alone: from the journal that it was loaded with to the one that it leaves.
use Rattle.std.specs.Prelude.{◌≡◌, ℕ, false, All, List, [], ◌∷◌, ◌++◌, Option, None, codes, decimal, length}
use Rattle.std.specs.Io.KnownBytes.{Appends}
use Rattle.units.specs.declared.code.Node.{Node}
use Rattle.protocol.specs.Input.{Input}
use Rattle.protocol.specs.Moment.{Moment}
use Rattle.protocol.specs.Scheme.{Scheme}
use Rattle.desk.specs.Keeping.{IsAtDesk, IsKept, StoredView}
use Rattle.desk.specs.NodeStore.{Ghosts}
use Rattle.settling.specs.Settling.{IsSettled}
use Rattle.node_state.specs.Views.{SeatView, committed_records}
use Rattle.sessions.specs.Orders.{was_ordered}
use Rattle.serving.specs.Answers.{IsBorne}
use Rattle.serving.specs.Orders.{AreOrders}
use Rattle.serving.specs.Committed.{ordered_from}
use Rattle.one_node.specs.Operating.{AsksToEnd, IsRead}
use Rattle.one_node.specs.Turns.{IsCarried, IsTurn, Turn, answers_of, answers_text, lines_of}
use Rattle.one_node.specs.declared.evidence.Evidence.{Evidence}

-- a node under a scheme, the moments that its clock gave, the inputs that its threads may have recorded, and which
-- records a file at a path has
module _ (scheme : Scheme) (n : Node) (tells : Moment → Type 0) (Takes : Input → Type 0) (Holds : List ℕ → List Input → Type 0) where
  -- a journal goes on, by the orders of these turns, each once and in their order, and by inputs that threads had
  -- recorded; and the journal bears out the result of each turn
  pub record GoesOn (first last : List Input) (turns : List Turn) : Type 0 where
    pub more : List Input
    pub goes : last ≡ first ++ more
    pub borne : All (IsTurn scheme n (IsBorne scheme n last) tells (IsCarried Holds last)) turns
    pub orders : AreOrders n (lines_of n turns) (answers_of turns) (ordered_from (length first) more)
    pub others : All (λ input. was_ordered input ≡ false → Takes input) more

-- the desk of the node: it has the scheme, and opens with these records
abbrev pub opens_with : Scheme → Node → List Input → Scheme → Node → List Input → ℕ → Type 0
opens_with scheme n journal its_scheme m its_journal faults = (its_scheme ≡ scheme) × (m ≡ n) × (its_journal ≡ journal)

-- the last line: how many records the node has committed
abbrev pub records_line : ℕ → List ℕ
records_line count = codes "records " ++ decimal count ++ codes "\n"

module _ (scheme : Scheme) (n : Node) (tells : Moment → Type 0) (Takes : Input → Type 0) (Holds : List ℕ → List Input → Type 0) where
  -- lines were read until one asked for the end, or until there were no more; the result of each was written, and the
  -- number of records was written last
  pub record IsLife (first last : List Input) (r s v w : Option (List ℕ)) : Type 0 where
    pub turns : List Turn
    pub left : List ℕ
    pub read : IsRead [] r s turns left
    pub ends : AsksToEnd s left
    pub written : Appends v w (answers_text 1 turns ++ records_line (length last))
    pub goes : GoesOn scheme n tells Takes Holds first last turns

-- ---- what the code follows; no public contract cites what stands below

-- the node's threads and its operator have ended: the desk left this state with its store, no fault stopped the store,
-- all their notes are those that a single thread would have made, and its records begin with those that were followed
module _ {S : Type 0} (g : Ghosts S) (opened : Scheme → Node → List Input → ℕ → Type 0) (scheme : Scheme) (n : Node) where
  pub record EndsSettled (kept : StoredView S) (threads : List SeatView) (evidence : Evidence) : Type 0 where
    pub keeps : IsKept g kept
    pub at : IsAtDesk g opened kept None
    pub node_is : kept.state.node ≡ n
    pub settled : IsSettled scheme n kept.state (threads ++ evidence.seat ∷ [])
    pub rest : List Input
    pub follows : committed_records kept.state ≡ evidence.replica.journal ++ rest
