-- The run that leads to the records of stores.
use Rattle.std.specs.Prelude.{ℕ, List}
use Rattle.units.specs.declared.code.Node.{Node}
use Rattle.protocol.specs.Input.{Input}
use Rattle.protocol.specs.Scheme.{Scheme}
use Rattle.protocol.specs.Registries.{nodes}
use Rattle.protocol.specs.Weave.{Projects}
use Rattle.protocol.specs.declared.event.WorldEvent.{WorldEvent}
use Rattle.stores.specs.declared.node_store.NodeStore.{Ghosts}
use Rattle.weave.specs.Following.{IsWeaveFault, journal_of}
use Rattle.weave.specs.declared.fault.WeaveFault.{WeaveFault}
use Rattle.weave.specs.declared.fault.WeaveFault.TheVariants as weaving
use Rattle.report.specs.Table.{IsSafeTable}
use Rattle.report.specs.declared.form.Form.{Form}
use Rattle.command_faults.specs.declared.fault.OpFault.{OpFault}
use Rattle.command_faults.specs.declared.fault.OpFault.TheVariants.{Store, Stuck, NoMemory}
use Rattle.loading.specs.Stores.{AreLoaded, FailsToLoad}

-- the text is the table, in that form, of a world that some events lead to and whose committed journals are these
pub record IsAuditTable (form : Form) (scheme : Scheme) (journals : List (List Input)) (text : List ℕ) : Type 0 where
  pub events : List WorldEvent
  pub projects : Projects scheme events (journal_of scheme journals)
  pub is_table : IsSafeTable form scheme events text

-- some events lead to the world whose committed journals are these
pub record HasRun (scheme : Scheme) (journals : List (List Input)) : Type 0 where
  pub events : List WorldEvent
  pub projects : Projects scheme events (journal_of scheme journals)

-- the command's fault for a fault of weaving
abbrev pub of_weaving : WeaveFault → OpFault
of_weaving (weaving.Stuck n place) = Stuck n place
of_weaving weaving.NoMemory = NoMemory

-- why no table was made of the journals
abbrev pub FailsToWeave : Scheme → List (List Input) → OpFault → Type 0
FailsToWeave scheme journals (Stuck n place) = IsWeaveFault scheme (journal_of scheme journals) (weaving.Stuck n place)
FailsToWeave scheme journals NoMemory = Unit {0}
FailsToWeave scheme journals _ = ⊥

module _ {S : Type 0} (g : Ghosts S) where
  -- the stores were read, and no run leads to their records
  pub record FindsNoRun (scheme : Scheme) (olds news : List S) (n : Node) (place : ℕ) : Type 0 where
    pub journals : List (List Input)
    pub loaded : AreLoaded g scheme (nodes scheme) olds news journals
    pub fault : IsWeaveFault scheme (journal_of scheme journals) (weaving.Stuck n place)

  -- the stores were not read, or no run leads to their records
  abbrev pub FailsToFindRun : OpFault → Scheme → List S → List S → Type 0
  FailsToFindRun (Stuck n place) scheme olds news = FindsNoRun scheme olds news n place
  FailsToFindRun (Store told fault) scheme olds news = FailsToLoad g scheme (nodes scheme) olds news (Store told fault)
  FailsToFindRun NoMemory scheme olds news = Unit {0}
  FailsToFindRun _ scheme olds news = ⊥
