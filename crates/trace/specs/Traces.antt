-- The records of a transaction in the stores of all nodes.
use Rattle.std.specs.Prelude.{◌<◌, ℕ, List, Option, length, take}
use Rattle.std.specs.Io.KnownBytes.{Appends, Keeps}
use Rattle.status.specs.declared.id.TransactionId.{TransactionId}
use Rattle.protocol.specs.Input.{Input}
use Rattle.protocol.specs.Scheme.{Scheme}
use Rattle.protocol.specs.Registries.{nodes}
use Rattle.protocol.specs.Weave.{Projects}
use Rattle.protocol.specs.World.{opening}
use Rattle.protocol.specs.declared.event.WorldEvent.{WorldEvent}
use Rattle.stores.specs.declared.node_store.NodeStore.{Ghosts}
use Rattle.weave.specs.Following.{journal_of}
use Rattle.command_faults.specs.declared.fault.OpFault.{OpFault}
use Rattle.command_faults.specs.declared.fault.OpFault.TheVariants.{Write, Store, Stuck, NoMemory}
use Rattle.report.specs.declared.form.Form.{Form}
use Rattle.loading.specs.Runs.{FindsNoRun}
use Rattle.loading.specs.Stores.{AreLoaded, FailsToLoad}
use Rattle.trace.specs.Lines.{IsTrace}
use Rattle.trace.specs.Rows.{rows}

-- some events lead to these journals, and the text has the records of the transaction in the order of these events
pub record TracesRun (form : Form) (scheme : Scheme) (journals : List (List Input)) (id : TransactionId) (text : List ℕ) : Type 0 where
  pub events : List WorldEvent
  pub projects : Projects scheme events (journal_of scheme journals)
  pub is_trace : IsTrace form text (rows (opening scheme) id events)

module _ {S : Type 0} (g : Ghosts S) where
  -- the stores were read, and the text has their records of the transaction
  pub record Traces (form : Form) (scheme : Scheme) (olds news : List S) (id : TransactionId) (text : List ℕ) : Type 0 where
    pub journals : List (List Input)
    pub loaded : AreLoaded g scheme (nodes scheme) olds news journals
    pub traces : TracesRun form scheme journals id text

  -- nothing was written, or some first bytes of the text, but not all of it
  abbrev pub FailsToTrace : Form → OpFault → Scheme → List S → List S → TransactionId → (before after : Option (List ℕ)) → Type 0
  FailsToTrace form (Stuck n place) scheme olds news id v w = FindsNoRun g scheme olds news n place × Keeps v w
  FailsToTrace form (Store told fault) scheme olds news id v w = FailsToLoad g scheme (nodes scheme) olds news (Store told fault) × Keeps v w
  FailsToTrace form (Write count) scheme olds news id v w = (text : List ℕ) × Traces form scheme olds news id text × (count < length text) × Appends v w (take count text)
  FailsToTrace form NoMemory scheme olds news id v w = Keeps v w
  FailsToTrace form _ scheme olds news id v w = ⊥
