-- The results of an audit.
use Rattle.std.specs.Prelude.{◌<◌, ℕ, List, Option, length, take}
use Rattle.std.specs.Io.KnownBytes.{Appends, Keeps}
use Rattle.protocol.specs.Input.{Input}
use Rattle.protocol.specs.Scheme.{Scheme}
use Rattle.protocol.specs.Registries.{nodes}
use Rattle.stores.specs.declared.node_store.NodeStore.{Ghosts}
use Rattle.report.specs.declared.form.Form.{Form}
use Rattle.command_faults.specs.declared.fault.OpFault.{OpFault}
use Rattle.command_faults.specs.declared.fault.OpFault.TheVariants.{Write, Store, Stuck, NoMemory}
use Rattle.loading.specs.Runs.{FindsNoRun, IsAuditTable}
use Rattle.loading.specs.Stores.{AreLoaded, FailsToLoad}

module _ {S : Type 0} (g : Ghosts S) where
  -- the stores were read, and the table is that of a run that leads to their records
  pub record Audits (form : Form) (scheme : Scheme) (olds news : List S) (table : List ℕ) : Type 0 where
    pub journals : List (List Input)
    pub loaded : AreLoaded g scheme (nodes scheme) olds news journals
    pub is_table : IsAuditTable form scheme journals table

  -- nothing was written, or some first bytes of the table, but not all of it
  abbrev pub FailsToAudit : Form → OpFault → Scheme → List S → List S → (before after : Option (List ℕ)) → Type 0
  FailsToAudit form (Stuck n place) scheme olds news v w = FindsNoRun g scheme olds news n place × Keeps v w
  FailsToAudit form (Store told fault) scheme olds news v w = FailsToLoad g scheme (nodes scheme) olds news (Store told fault) × Keeps v w
  FailsToAudit form (Write count) scheme olds news v w = (table : List ℕ) × Audits form scheme olds news table × (count < length table) × Appends v w (take count table)
  FailsToAudit form NoMemory scheme olds news v w = Keeps v w
  FailsToAudit form _ scheme olds news v w = ⊥
