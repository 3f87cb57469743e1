-- The report of a run with threads.
use Rattle.std.specs.Prelude.{◌≡◌, ◌⊎◌, ◌<◌, ◌+◌, ℕ, All, List, ◌++◌, Option, Some, false, length, slice_get, take}
use Rattle.std.specs.Io.KnownBytes.{Appends, Keeps}
use Rattle.units.specs.declared.code.Node.{Node}
use Rattle.protocol.specs.Input.{Input}
use Rattle.protocol.specs.Scheme.{Scheme}
use Rattle.protocol.specs.Registries.{nodes, index_of}
use Rattle.desk.specs.NodeStore.{Ghosts}
use Rattle.desk.specs.Keeping.{StoredView}
use Rattle.node_state.specs.Views.{StateView, SeatView}
use Rattle.sessions.specs.Orders.{was_ordered}
use Rattle.weave.specs.Following.{journal_of}
use Rattle.command_faults.specs.declared.fault.OpFault.{OpFault}
use Rattle.command_faults.specs.declared.fault.OpFault.TheVariants.{Write, NoMemory}
use Rattle.report.specs.declared.form.Form.TheVariants.{Lines}
use Rattle.loading.specs.Runs.{IsAuditTable}
use Rattle.ended_nodes.specs.Ended.{states_of}
use Rattle.ended_nodes.specs.Reported.{committed_by_all}
use Rattle.input_lines.specs.declared.script_line.ScriptLine.{ScriptLine}
use Rattle.serving.specs.Answers.{AreAnswers, IsAnswer, answer_lines, first_undone}
use Rattle.serving.specs.Committed.{orders_of, since}
use Rattle.serving.specs.Ends.{HaveEnded, IsLateFault}
use Rattle.serving.specs.Heard.{AreHeard}
use Rattle.serving.specs.Orders.{AreOrders}
use Rattle.serving.specs.declared.answer.ScriptAnswer.{ScriptAnswer}

-- ---- the nodes of a run

-- the state at a desk has the scheme, and belongs to one of the nodes that were loaded: its journal at the opening is
-- that node's, and so was its store's count of faults
pub record IsLoadedAmong {S : Type 0} (g : Ghosts S) (scheme : Scheme) (loaded : List (StoredView S)) (its_scheme : Scheme) (n : Node) (journal : List Input) (faults : ℕ) : Type 0 where
  pub scheme_is : its_scheme ≡ scheme
  pub at : ℕ
  pub old : StoredView S
  pub is : slice_get loaded at ≡ Some old
  pub node_is : n ≡ old.state.node
  pub journal_is : journal ≡ old.state.journal
  pub faults_are : faults ≡ g.faults old.store

-- ---- a script

-- the other records of each node are inputs that its threads have recorded
abbrev pub HaveOthers : (Input → Type 0) → Scheme → List StateView → Type 0
HaveOthers Takes scheme helds = (n : Node) (at : ℕ) (held : StateView) → index_of scheme n ≡ Some at → slice_get helds at ≡ Some held → All (λ input. was_ordered input ≡ false → Takes input) (since held)

-- the answers to the script's lines, and then the table of the world that a run leads to, whose committed journals are
-- those of these nodes; they bear out the answers, and since the opening they have the script's orders and no others.
-- By the same answers, the first line that was not carried out has that number
pub record IsRunReport (scheme : Scheme) (lines : List ScriptLine) (helds : List StateView) (undone : Option ℕ) (text : List ℕ) : Type 0 where
  pub answers : List ScriptAnswer
  pub table : List ℕ
  pub borne : AreAnswers (IsAnswer scheme (journal_of scheme (committed_by_all helds))) lines answers
  pub orders : (n : Node) (at : ℕ) (held : StateView) → index_of scheme n ≡ Some at → slice_get helds at ≡ Some held → AreOrders n lines answers (orders_of held)
  pub is_table : IsAuditTable Lines scheme (committed_by_all helds) table
  pub spelled : text ≡ answer_lines 1 answers ++ table
  pub first : undone ≡ first_undone 1 lines answers

-- an answer to each line, as the desks gave it, was written, and nothing else
pub record HasAnswered (scheme : Scheme) (lines : List ScriptLine) (before after : Option (List ℕ)) : Type 0 where
  pub answers : List ScriptAnswer
  pub seats : List SeatView
  pub heard : AreHeard scheme seats lines answers
  pub written : Appends before after (answer_lines 1 answers)

-- the first bytes of the answers were written, fewer than all
pub record AnswersInPart (scheme : Scheme) (lines : List ScriptLine) (count : ℕ) (before after : Option (List ℕ)) : Type 0 where
  pub answers : List ScriptAnswer
  pub seats : List SeatView
  pub heard : AreHeard scheme seats lines answers
  pub fewer : count < length (answer_lines 1 answers)
  pub written : Appends before after (take count (answer_lines 1 answers))

module _ {S : Type 0} (g : Ghosts S) (opened : Scheme → Node → List Input → ℕ → Type 0) where
  -- the nodes ended well, and the answers and the first bytes of their table were written, fewer than all
  pub record ReportsInPart (scheme : Scheme) (lines : List ScriptLine) (count : ℕ) (before after : Option (List ℕ)) : Type 0 where
    pub ends : List (StoredView S)
    pub undone : Option ℕ
    pub text : List ℕ
    pub ended : HaveEnded g opened scheme ends
    pub report : IsRunReport scheme lines (states_of ends) undone text
    pub fewer : count < length text
    pub written : Appends before after (take count text)

  -- after the script's end the answers are written before anything else is looked at
  abbrev pub FailsToRun : OpFault → Scheme → List ScriptLine → (before after : Option (List ℕ)) → Type 0
  FailsToRun (Write count) scheme lines v w = AnswersInPart scheme lines count v w ⊎ ReportsInPart scheme lines count v w
  FailsToRun NoMemory scheme lines v w = Keeps v w ⊎ HasAnswered scheme lines v w
  FailsToRun fault scheme lines v w = IsLateFault g opened scheme fault × HasAnswered scheme lines v w
