-- The furthest cut of the records of stores.
use Rattle.std.specs.Prelude.{◌≡◌, ◌<◌, ℕ, All, List, [], ◌++◌, Option, Some, codes, decimal, filter, flat_map, length, map, slice_get, take}
use Rattle.std.specs.Io.KnownBytes.{Appends, Keeps}
use Rattle.units.specs.Code.{node_text}
use Rattle.status.specs.Id.{id_text}
use Rattle.units.specs.declared.code.Node.{Node}
use Rattle.protocol.specs.Input.{Input}
use Rattle.wire.specs.declared.input.Input.TheVariants.{Received}
use Rattle.wire.specs.declared.message.Message.{Message}
use Rattle.protocol.specs.Scheme.{Scheme}
use Rattle.protocol.specs.Registries.{nodes}
use Rattle.protocol.specs.Weave.{IsFurthestCut, IsQuiet, Projects, committed_by}
use Rattle.protocol.specs.World.{opening, run}
use Rattle.protocol.specs.declared.event.WorldEvent.{WorldEvent}
use Rattle.stores.specs.declared.node_store.NodeStore.{Ghosts}
use Rattle.weave.specs.Cuts.{IsBeyond, goes_beyond}
use Rattle.weave.specs.Following.{journal_of}
use Rattle.weave.specs.declared.cut.Rest.{Rest}
use Rattle.report.specs.ReportLines.{message_text, message_word}
use Rattle.report.specs.Table.{IsSafeTable}
use Rattle.report.specs.declared.form.Form.{Form}
use Rattle.report.specs.declared.form.Form.TheVariants.{Lines, Json}
use Rattle.command_faults.specs.declared.fault.OpFault.{OpFault}
use Rattle.command_faults.specs.declared.fault.OpFault.TheVariants.{Write, Store, Stuck, NoMemory}
use Rattle.loading.specs.Stores.{AreLoaded, FailsToLoad}

-- ---- the lines about records beyond the cut

-- the message that the record at that place of the node waits for
abbrev pub message_line : Form → Node → ℕ → Message → List ℕ
message_line Lines n place m = codes "waits " ++ node_text n ++ codes " " ++ decimal place ++ codes " " ++ message_text m ++ codes " from " ++ node_text m.from ++ codes "\n"
message_line Json n place m =
    codes "{\"from\":\"" ++ node_text m.from ++ codes "\",\"line\":\"waits\",\"message\":\"" ++ message_word m.body ++ codes "\",\"node\":\"" ++ node_text n ++ codes "\",\"place\":" ++ decimal place
    ++ codes ",\"transaction\":\"" ++ id_text m.id ++ codes "\"}\n"

abbrev pub waits_line : Form → Node → ℕ → Input → List ℕ
waits_line form n place (Received m moment) = message_line form n place m
waits_line form n place _ = []

-- the number of the node's records beyond the cut, and the place of the first of them
abbrev pub left_line : Form → Node → ℕ → ℕ → List ℕ
left_line Lines n place count = codes "left " ++ node_text n ++ codes " " ++ decimal place ++ codes " " ++ decimal count ++ codes "\n"
left_line Json n place count = codes "{\"count\":" ++ decimal count ++ codes ",\"line\":\"left\",\"node\":\"" ++ node_text n ++ codes "\",\"place\":" ++ decimal place ++ codes "}\n"

abbrev pub rest_lines : Form → Rest → List ℕ
rest_lines form r = left_line form r.node r.place r.count ++ waits_line form r.node r.place r.next

-- ---- the cut

-- the text is the table, in that form, of the furthest world that some events lead to, where each journal has the first
-- records of the one here and every node is idle; after it come lines about the records beyond
pub record IsCutText (form : Form) (scheme : Scheme) (journals : List (List Input)) (rests : List Rest) (text : List ℕ) : Type 0 where
  pub events : List WorldEvent
  pub furthest : IsFurthestCut scheme (journal_of scheme journals) events
  pub quiet : IsQuiet (run (opening scheme) events)
  pub table : List ℕ
  pub is_table : IsSafeTable form scheme events table
  pub left : map (λ r. r.node) rests ≡ filter (goes_beyond (journal_of scheme journals) (committed_by scheme events)) (nodes scheme)
  pub beyond : All (IsBeyond scheme (journal_of scheme journals) (committed_by scheme events)) rests
  pub whole : rests ≡ [] → Projects scheme events (journal_of scheme journals)
  pub is : text ≡ table ++ flat_map (rest_lines form) rests

-- the first record beyond is the node's, at that place
pub record IsFirstBeyond (rests : List Rest) (n : Node) (place : ℕ) : Type 0 where
  pub first : Rest
  pub is : slice_get rests 0 ≡ Some first
  pub node : n ≡ first.node
  pub placed : place ≡ first.place

module _ {S : Type 0} (g : Ghosts S) where
  -- the stores were read, and the text is that of the furthest cut of their records
  pub record CutsOff (form : Form) (scheme : Scheme) (olds news : List S) (rests : List Rest) (text : List ℕ) : Type 0 where
    pub journals : List (List Input)
    pub loaded : AreLoaded g scheme (nodes scheme) olds news journals
    pub is_text : IsCutText form scheme journals rests text

  -- the text was written, and there are records beyond the cut; or the stores could not be read; or some first bytes of
  -- the text were written, but not all of it
  abbrev pub FailsToCutOff : Form → OpFault → Scheme → List S → List S → (before after : Option (List ℕ)) → Type 0
  FailsToCutOff form (Stuck n place) scheme olds news v w = (rests : List Rest) × (text : List ℕ) × CutsOff form scheme olds news rests text × IsFirstBeyond rests n place × Appends v w text
  FailsToCutOff form (Store told fault) scheme olds news v w = FailsToLoad g scheme (nodes scheme) olds news (Store told fault) × Keeps v w
  FailsToCutOff form (Write count) scheme olds news v w = (rests : List Rest) × (text : List ℕ) × CutsOff form scheme olds news rests text × (count < length text) × Appends v w (take count text)
  FailsToCutOff form NoMemory scheme olds news v w = Keeps v w
  FailsToCutOff form _ scheme olds news v w = ⊥
