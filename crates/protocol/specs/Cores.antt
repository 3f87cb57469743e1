-- The result of a node's core for an input, and the journals that a core has.
use Rattle.std.specs.Prelude.{◌≡◌, ◌⊎◌, ℕ, List, [], ◌∷◌, ◌++◌, length, take, slice_get, Result, Ok, Err, Some}
use Rattle.units.specs.RefusalCodes.{out_of_memory}
use Rattle.units.specs.declared.code.Node.{Node}
use Rattle.units.specs.declared.refusal.Refusal.{Refusal}
use Rattle.wire.specs.declared.input.Input.{Input}
use Rattle.scheme.specs.declared.registries.Scheme.{Scheme}
use Rattle.protocol.specs.declared.node_core.Stepped.{Stepped}
use Rattle.protocol.specs.declared.node_core.Stepped.TheVariants.{Recorded, Repeat, Late}
use Rattle.protocol.specs.declared.replay_fault.ReplayFault.{ReplayFault}
use Rattle.protocol.specs.declared.replay_fault.ReplayFault.TheVariants.{NotRecorded, NoMemory}
use Rattle.protocol.specs.Deciding.{Verdict, IsRecorded, IsRepeat, IsLate, IsRefused}
use Rattle.protocol.specs.Outgoing.{outgoing}
use Rattle.protocol.specs.Verdict.{verdict, history}
use Rattle.records.specs.Records.{RecordsView}

-- ---- one input

-- a verdict as a result, with the number of records before the input
abbrev pub answer_of : ℕ → Verdict → Result Stepped Refusal
answer_of place (IsRecorded xs) = Ok (Recorded place)
answer_of place IsRepeat = Ok Repeat
answer_of place IsLate = Ok Late
answer_of place (IsRefused code) = Err (record { code = code })

-- the result that a core has to return for an input after a journal
abbrev pub answer : Scheme → Node → List Input → Input → Result Stepped Refusal
answer scheme n journal input = answer_of (length journal) (verdict scheme n (history scheme n journal) input)

-- the result is the expected one, or out of memory in its place
abbrev pub IsExpectedOrNoMemory : {X : Type 0} → Result X Refusal → Result X Refusal → Type 0
IsExpectedOrNoMemory result expected = (result ≡ expected) ⊎ (result ≡ Err (record { code = out_of_memory }))

-- the journal after that result for an input
abbrev pub after : List Input → Input → Result Stepped Refusal → List Input
after journal input (Ok (Recorded place)) = journal ++ input ∷ []
after journal input (Ok Repeat) = journal
after journal input (Ok Late) = journal
after journal input (Err refusal) = journal

-- ---- whole journals

-- each record of the journal is recorded at its place after the records before it
abbrev pub Replays : Scheme → Node → List Input → Type 0
Replays scheme n journal = (k : ℕ) (input : Input) → slice_get journal k ≡ Some input → answer scheme n (take k journal) input ≡ Ok (Recorded k)

-- the records are those of the journal, with the messages that its history sends, and each is recorded at its place
-- after those before it
pub record AreRecordsOf (scheme : Scheme) (n : Node) (journal : List Input) (records : RecordsView) : Type 0 where
  pub inputs : records.inputs ≡ journal
  pub sent : records.sent ≡ outgoing (history scheme n journal)
  pub replays : Replays scheme n journal

-- the record at that place is the first one of the journal that isn't recorded there after the records before it
pub record IsFirstNotRecorded (scheme : Scheme) (n : Node) (journal : List Input) (k : ℕ) : Type 0 where
  pub input : Input
  pub is : slice_get journal k ≡ Some input
  pub refused : answer scheme n (take k journal) input ≡ Ok (Recorded k) → ⊥
  pub before : Replays scheme n (take k journal)

-- the journal has the fault; running out of memory says nothing about the journal
abbrev pub HasFault : Scheme → Node → List Input → ReplayFault → Type 0
HasFault scheme n journal (NotRecorded k) = IsFirstNotRecorded scheme n journal k
HasFault scheme n journal NoMemory = Unit {0}

-- the fault names that place, if it names one
abbrev pub IsAt : ℕ → ReplayFault → Type 0
IsAt place (NotRecorded k) = k ≡ place
IsAt place NoMemory = Unit {0}
