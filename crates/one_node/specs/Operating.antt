-- The results that an operator got while a node's threads ran, and what bears them out.
use Rattle.std.specs.Prelude.{◌≡◌, ◌⊎◌, ◌+◌, ◌≤◌, ℕ, false, true, All, List, [], ◌∷◌, ◌++◌, Option, None, Result, IfOk, codes, length, take}
use Rattle.std.specs.Io.KnownBytes.{Appends, Consumes, IsAtEnd, Keeps}
use Rattle.streams.specs.Lines.{HasNoNewline, stream_of}
use Rattle.units.specs.declared.code.Node.{Node}
use Rattle.units.specs.declared.code.Node.TheVariants.{Itl}
use Rattle.protocol.specs.Input.{Input}
use Rattle.protocol.specs.Input.TheVariants.{CleanUp}
use Rattle.protocol.specs.Moment.{Moment}
use Rattle.protocol.specs.Scheme.{Scheme}
use Rattle.node_state.specs.Views.{SeatView}
use Rattle.node_state.specs.declared.notes.Lengths.TheVariants.{Grew}
use Rattle.node_state.specs.declared.notes.Note.{Note}
use Rattle.node_state.specs.declared.notes.Told.{Told}
use Rattle.settling.specs.Settling.{Bears}
use Rattle.input_lines.specs.declared.instruction.Instruction.{Instruction}
use Rattle.input_lines.specs.declared.instruction.Instruction.TheVariants.{Order}
use Rattle.input_lines.specs.declared.script_line.ScriptLine.{ScriptLine}
use Rattle.serving.specs.Answers.{asked_by, is_possible}
use Rattle.serving.specs.Heard.{Grows, HasHeard}
use Rattle.serving.specs.Notes.{IsNotedOf}
use Rattle.serving.specs.Orders.{Adds, HasOrders, Notes}
use Rattle.serving.specs.declared.answer.ScriptAnswer.{ScriptAnswer}
use Rattle.serving.specs.declared.answer.ScriptAnswer.TheVariants.{NotPossible, Told as Answered}
use Rattle.command_faults.specs.declared.fault.OpFault.{OpFault}
use Rattle.one_node.specs.Reading.{held_of}
use Rattle.one_node.specs.Turns.{AsksExport, IsCarried, IsTurn, Turn, Exported, Unread, answers_of, answers_text, lines_of, raw_lines}
use Rattle.one_node.specs.declared.answering.OperatorFault.TheVariants as faults
use Rattle.one_node.specs.declared.evidence.Evidence.{Evidence}
use Rattle.one_node.specs.declared.operator.Next.{Next}
use Rattle.one_node.specs.declared.operator.Next.TheVariants.{On, Export, Stopped, End}

-- bytes that were read before and are no whole line yet; the bytes that were read, as the reader's contents before and
-- after show; and the bytes that were read and are no whole line yet, or ask for an end
pub record IsRead (begun : List ℕ) (before after : Option (List ℕ)) (turns : List Turn) (left : List ℕ) : Type 0 where
  pub read : List ℕ
  pub consumed : Consumes before after read
  pub lines : begun ++ read ≡ stream_of (raw_lines turns) left

-- the bytes that are left ask for an end, or the stream has ended
abbrev pub AsksToEnd : Option (List ℕ) → List ℕ → Type 0
AsksToEnd after left = (left ≡ codes "stop" ++ 10 ∷ []) ⊎ (IsAtEnd after × HasNoNewline left)

-- ---- what the code follows; no public contract cites what stands below

-- the results were written, and each line was counted, including those before them
pub record IsAnswered (count : ℕ) (before after : Option (List ℕ)) (turns : List Turn) (counted : ℕ) : Type 0 where
  pub written : Appends before after (answers_text (count + 1) turns)
  pub counts : counted ≡ count + length (raw_lines turns)

-- a seat without notes
abbrev pub empty_seat : SeatView
empty_seat = record { tickets = []; notes = []; seen = 0; lengths = Grew; confirmed = 0; prepared = None }

-- the seat with notes before those that it has
abbrev pub with_notes : List Note → SeatView → SeatView
with_notes notes seat = record seat { notes = notes ++ seat.notes }

-- the seat with all notes that it ever made: the replica, which is of the node under the scheme, bears out those that
-- the seat has forgotten, and the first ones of those that it has
pub record IsWhole (scheme : Scheme) (n : Node) (e : Evidence) (seat : SeatView) : Type 0 where
  pub scheme_is : e.replica.scheme ≡ scheme
  pub node_is : e.replica.node ≡ n
  pub forgotten : List Note
  pub seat_is : seat ≡ with_notes forgotten e.seat
  pub borne : All (Bears scheme n e.replica.journal) forgotten
  pub within : e.judged ≤ length e.seat.notes
  pub judged : All (Bears scheme n e.replica.journal) (take e.judged e.seat.notes)

-- that many of the first notes are judged: if these are all, they are forgotten
pub data IsCounted (old : SeatView) (judged : ℕ) (new : SeatView) (after : ℕ) : Type 0 where
  AllJudged : length old.notes ≡ judged → new ≡ record old { notes = [] } → after ≡ 0 → IsCounted old judged new after
  SomeJudged : new ≡ old → after ≡ judged → IsCounted old judged new after

-- the replica has recorded further records, by which the seat may have forgotten notes
pub record Follows (old new : Evidence) : Type 0 where
  pub more : List Input
  pub journal_is : new.replica.journal ≡ old.replica.journal ++ more
  pub whole : (scheme : Scheme) (n : Node) (seat : SeatView) → IsWhole scheme n old seat → IsWhole scheme n new seat

-- the question of an instruction was asked with the seat, which has kept the result
pub record IsAsked (i : Instruction) (old new : SeatView) (told : Told) : Type 0 where
  pub heard : HasHeard new (asked_by i) told
  pub grows : Grows old new
  pub adds : Adds (asked_by i) old new told
  pub notes : Notes (IsNotedOf i) old new told

-- it was asked if the node takes such an order
abbrev pub Asks : Scheme → Node → Instruction → (old new : SeatView) → ScriptAnswer → Type 0
Asks scheme n i old new NotPossible = (is_possible scheme n i ≡ false) × (new ≡ old)
Asks scheme n i old new (Answered told) = (is_possible scheme n i ≡ true) × IsAsked i old new told

-- the clock ordered a clean-up at that moment
pub record IsOrdered (scheme : Scheme) (n : Node) (tells : Moment → Type 0) (old new : SeatView) : Type 0 where
  pub moment : Moment
  pub told : Told
  pub log : n ≡ Itl
  pub tells_it : tells moment
  pub possible : is_possible scheme n (Order (CleanUp moment)) ≡ true
  pub asked : IsAsked (Order (CleanUp moment)) old new told

-- or there was nothing to order
abbrev pub IsTimed : Scheme → Node → (tells : Moment → Type 0) → (old new : SeatView) → Type 0
IsTimed scheme n tells old new = (new ≡ old) ⊎ IsOrdered scheme n tells old new

-- the part that is held of a line that was begun
pub record IsBegun (held begun : List ℕ) : Type 0 where
  pub held_is : held ≡ held_of begun
  pub none : HasNoNewline begun

-- what comes next: another step, the export that the held line asks for, or the node's end, which was asked for or not
abbrev pub IsNext : List ℕ → Option (List ℕ) → List ℕ → Next → Type 0
IsNext held after left On = IsBegun held left
IsNext held after left Export = (left ≡ held ++ 10 ∷ []) × AsksExport held
IsNext held after left Stopped = Unit {0}
IsNext held after left End = AsksToEnd after left

-- no file has any records
abbrev pub held_nowhere : List ℕ → List Input → Type 0
held_nowhere path records = ⊥

-- the result of a line that asks for an export was written, at that journal: the records were exported, or they weren't
abbrev pub AnswersExport : (Holds : List ℕ → List Input → Type 0) → List Input → List ℕ → (v w : Option (List ℕ)) (count counted : ℕ) → Type 0
AnswersExport Holds journal line v w count counted =
    ((exported : ℕ) × IsCarried Holds journal line exported × IsAnswered count v w (Exported line exported ∷ []) counted)
    ⊎ (AsksExport line × IsAnswered count v w (Unread line faults.Export ∷ []) counted)

-- a node under a scheme, the moments that its clock gave, and which records a file at a path has
module _ (scheme : Scheme) (n : Node) (tells : Moment → Type 0) (Holds : List ℕ → List Input → Type 0) where
  -- the seat has noted the results, and its records are the orders in their order; the journal begins with the records
  -- that were exported
  pub record HasTurns (turns : List Turn) (journal : List Input) (seat : SeatView) : Type 0 where
    pub heard : All (IsTurn scheme n (HasHeard seat) tells (IsCarried Holds journal)) turns
    pub orders : HasOrders n (lines_of n turns) (answers_of turns) seat

  -- a seat has these turns in addition to those that it had, at that journal
  pub record AddsTurns (turns : List Turn) (journal : List Input) (old new : SeatView) : Type 0 where
    pub grows : Grows old new
    pub heard : All (IsTurn scheme n (HasHeard new) tells (IsCarried Holds journal)) turns
    pub orders : (lines : List ScriptLine) (answers : List ScriptAnswer) → length answers ≡ length lines → HasOrders n lines answers old → HasOrders n (lines ++ lines_of n turns) (answers ++ answers_of turns) new

  -- these turns came after all those before, whatever notes the seat has forgotten
  pub record Hears (old : Evidence) (turns : List Turn) (new : Evidence) : Type 0 where
    pub more : List Input
    pub journal_is : new.replica.journal ≡ old.replica.journal ++ more
    pub hears : (before : SeatView) → IsWhole scheme n old before → (after : SeatView) × IsWhole scheme n new after × AddsTurns turns new.replica.journal before after

  -- the contents of the reader and of the writer before and after, the number of lines counted, and the evidence: turns
  -- were read, their results were written, and the evidence bears them out. Some of the bytes that were read are left;
  -- they are no turn
  pub record Talks (begun : List ℕ) (r s v w : Option (List ℕ)) (count counted : ℕ) (old new : Evidence) (left : List ℕ) : Type 0 where
    pub turns : List Turn
    pub read : IsRead begun r s turns left
    pub answered : IsAnswered count v w turns counted
    pub hears : Hears old turns new

  -- the result was written of a line that was read to its newline; or the line asks for an export, or for an end
  module _ (line : List ℕ) (v w : Option (List ℕ)) (count counted : ℕ) (old new : Evidence) (held : List ℕ) where
    pub record AnswersLine : Type 0 where
      pub turn : Turn
      pub raw : raw_lines (turn ∷ []) ≡ line ∷ []
      pub answered : IsAnswered count v w (turn ∷ []) counted
      pub hears : Hears old (turn ∷ []) new
      pub begins : held ≡ []

    pub record EndsThere : Type 0 where
      pub asks : line ≡ codes "stop"
      pub unwritten : Keeps v w
      pub uncounted : counted ≡ count
      pub same : new ≡ old

    -- its result is to be written later, and it is held
    pub record AwaitsExport : Type 0 where
      pub asks : AsksExport line
      pub unwritten : Keeps v w
      pub uncounted : counted ≡ count
      pub same : new ≡ old
      pub holds : held ≡ line

    abbrev pub TakesLine : Next → Type 0
    TakesLine On = AnswersLine
    TakesLine Export = AwaitsExport
    TakesLine Stopped = ⊥
    TakesLine End = EndsThere

  -- lines were read and their results written for a while, and if that succeeded, this comes next
  pub record Operates (held last : List ℕ) (r s v w : Option (List ℕ)) (count counted : ℕ) (old new : Evidence) (result : Result Next OpFault) : Type 0 where
    pub talks : (begun : List ℕ) → IsBegun held begun → IfOk result (λ next. (left : List ℕ) × Talks begun r s v w count counted old new left × IsNext last s left next)
