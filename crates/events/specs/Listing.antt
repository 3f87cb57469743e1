-- The run that leads to the records of all stores.
use Rattle.std.specs.Prelude.{◌≡◌, ◌<◌, ℕ, List, Option, length, take}
use Rattle.std.specs.Io.KnownBytes.{Appends, Keeps}
use Rattle.protocol.specs.Input.{Input}
use Rattle.protocol.specs.Scheme.{Scheme}
use Rattle.protocol.specs.Registries.{nodes}
use Rattle.protocol.specs.Weave.{Projects}
use Rattle.protocol.specs.declared.event.WorldEvent.{WorldEvent}
use Rattle.stores.specs.declared.node_store.NodeStore.{Ghosts}
use Rattle.weave.specs.Following.{journal_of}
use Rattle.command_faults.specs.declared.fault.OpFault.{OpFault}
use Rattle.command_faults.specs.declared.fault.OpFault.TheVariants.{Write, Store, Stuck, NoMemory}
use Rattle.report.specs.declared.form.Form.{Form}
use Rattle.report.specs.declared.form.Form.TheVariants.{Lines, Json}
use Rattle.loading.specs.Runs.{FindsNoRun}
use Rattle.loading.specs.Stores.{AreLoaded, FailsToLoad}
use Rattle.events.specs.Runs.{IsRun}
use Rattle.events.specs.Objects.{run_objects}

-- the text of the run in that form
abbrev pub IsRunIn : Form → List ℕ → Scheme → List WorldEvent → Type 0
IsRunIn Lines text scheme events = IsRun text scheme events
IsRunIn Json text scheme events = text ≡ run_objects scheme events

-- the text has events that lead to these journals
pub record ListsRun (form : Form) (scheme : Scheme) (journals : List (List Input)) (text : List ℕ) : Type 0 where
  pub events : List WorldEvent
  pub projects : Projects scheme events (journal_of scheme journals)
  pub is_run : IsRunIn form text scheme events

module _ {S : Type 0} (g : Ghosts S) where
  -- the stores were read, and the text has events that lead to their records
  pub record Lists (form : Form) (scheme : Scheme) (olds news : List S) (text : List ℕ) : Type 0 where
    pub journals : List (List Input)
    pub loaded : AreLoaded g scheme (nodes scheme) olds news journals
    pub lists : ListsRun form scheme journals text

  -- nothing was written, or some first bytes of the text, but not all of it
  abbrev pub FailsToList : Form → OpFault → Scheme → List S → List S → (before after : Option (List ℕ)) → Type 0
  FailsToList form (Stuck n place) scheme olds news v w = FindsNoRun g scheme olds news n place × Keeps v w
  FailsToList form (Store told fault) scheme olds news v w = FailsToLoad g scheme (nodes scheme) olds news (Store told fault) × Keeps v w
  FailsToList form (Write count) scheme olds news v w = (text : List ℕ) × Lists form scheme olds news text × (count < length text) × Appends v w (take count text)
  FailsToList form NoMemory scheme olds news v w = Keeps v w
  FailsToList form _ scheme olds news v w = ⊥
