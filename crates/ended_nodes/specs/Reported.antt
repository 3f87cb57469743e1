-- The table of the nodes after a run.
use Rattle.std.specs.Prelude.{◌<◌, ℕ, List, Option, length, map, take}
use Rattle.std.specs.Io.KnownBytes.{Appends, Keeps}
use Rattle.units.specs.declared.code.Node.{Node}
use Rattle.protocol.specs.Input.{Input}
use Rattle.protocol.specs.Scheme.{Scheme}
use Rattle.node_state.specs.Views.{StateView, SeatView, committed_records}
use Rattle.weave.specs.Following.{IsWeaveFault, journal_of}
use Rattle.weave.specs.declared.fault.WeaveFault.TheVariants as weaving
use Rattle.command_faults.specs.declared.fault.OpFault.{OpFault}
use Rattle.command_faults.specs.declared.fault.OpFault.TheVariants.{Write, Stuck, Unsettled, NoMemory}
use Rattle.report.specs.declared.form.Form.TheVariants.{Lines}
use Rattle.loading.specs.Runs.{IsAuditTable}
use Rattle.ended_nodes.specs.Settled.{AreSettled, FailsToSettle}

-- the committed records of each node
abbrev pub committed_by_all : List StateView → List (List Input)
committed_by_all helds = map committed_records helds

-- all nodes are settled, and the table is that of a run that leads to their committed records
pub record IsReported (scheme : Scheme) (helds : List StateView) (seats : List (List SeatView)) (table : List ℕ) : Type 0 where
  pub settled : AreSettled scheme helds seats
  pub is_table : IsAuditTable Lines scheme (committed_by_all helds) table

-- all nodes are settled, and no run leads to their committed records
pub record HasNoRun (scheme : Scheme) (helds : List StateView) (seats : List (List SeatView)) (n : Node) (place : ℕ) : Type 0 where
  pub settled : AreSettled scheme helds seats
  pub fault : IsWeaveFault scheme (journal_of scheme (committed_by_all helds)) (weaving.Stuck n place)

-- why there is no table
abbrev pub IsTableFault : Scheme → List StateView → List (List SeatView) → OpFault → Type 0
IsTableFault scheme helds seats (Unsettled n) = FailsToSettle scheme helds seats (Unsettled n)
IsTableFault scheme helds seats (Stuck n place) = HasNoRun scheme helds seats n place
IsTableFault scheme helds seats NoMemory = Unit {0}
IsTableFault scheme helds seats _ = ⊥

-- nothing was written, or some first bytes of the table, but not all of it
abbrev pub FailsToReport : OpFault → Scheme → List StateView → List (List SeatView) → (before after : Option (List ℕ)) → Type 0
FailsToReport (Write count) scheme helds seats v w = (table : List ℕ) × IsReported scheme helds seats table × (count < length table) × Appends v w (take count table)
FailsToReport fault scheme helds seats v w = IsTableFault scheme helds seats fault × Keeps v w
