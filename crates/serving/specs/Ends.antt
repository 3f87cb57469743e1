-- How nodes end, each with a desk that no thread shares any more.
use Rattle.std.specs.Prelude.{◌≡◌, ◌≢◌, ◌⊎◌, ℕ, All, List, Option, None, Some, map}
use Rattle.units.specs.declared.code.Node.{Node}
use Rattle.protocol.specs.Input.{Input}
use Rattle.protocol.specs.Scheme.{Scheme}
use Rattle.protocol.specs.Registries.{nodes}
use Rattle.desk.specs.StoreFault.{StoreFault}
use Rattle.desk.specs.NodeStore.{Ghosts}
use Rattle.desk.specs.Keeping.{IsAtDesk, IsKept, StoredView}
use Rattle.node_state.specs.Views.{SeatView}
use Rattle.command_faults.specs.declared.fault.OpFault.{OpFault}
use Rattle.command_faults.specs.declared.fault.OpFault.TheVariants.{Store, Stuck, Unsettled, NoMemory}
use Rattle.ended_nodes.specs.Ended.{states_of}
use Rattle.ended_nodes.specs.Reported.{IsTableFault}

-- what is known of the nodes when their desks open
module _ {S : Type 0} (g : Ghosts S) (opened : Scheme → Node → List Input → ℕ → Type 0) where
  -- no fault stopped the store, which has just the committed records
  pub record EndsWell (kept : StoredView S) : Type 0 where
    pub keeps : IsKept g kept
    pub at : IsAtDesk g opened kept None

  -- each node of the scheme ended well
  pub record HaveEnded (scheme : Scheme) (ends : List (StoredView S)) : Type 0 where
    pub nodes_are : map (λ e. e.state.node) ends ≡ nodes scheme
    pub well : All (EndsWell) ends

  -- that fault stopped the node's store
  pub record HasFailed (n : Node) (fault : StoreFault) : Type 0 where
    pub kept : StoredView S
    pub keeps : IsKept g kept
    pub node_is : kept.state.node ≡ n
    pub at : IsAtDesk g opened kept (Some fault)

  -- the desk in that node's place is that of another node
  pub record IsMisplaced (n : Node) : Type 0 where
    pub kept : StoredView S
    pub keeps : IsKept g kept
    pub other : kept.state.node ≢ n

  -- all nodes ended well, and the notes of their threads have that fault
  pub record HasTableFault (scheme : Scheme) (fault : OpFault) : Type 0 where
    pub ends : List (StoredView S)
    pub seats : List (List SeatView)
    pub ended : HaveEnded scheme ends
    pub cause : IsTableFault scheme (states_of ends) seats fault

  -- a fault after the script's end, except a fault of the output
  abbrev pub IsLateFault : Scheme → OpFault → Type 0
  IsLateFault scheme (Store n fault) = HasFailed n fault
  IsLateFault scheme (Unsettled n) = IsMisplaced n ⊎ HasTableFault scheme (Unsettled n)
  IsLateFault scheme (Stuck n place) = HasTableFault scheme (Stuck n place)
  IsLateFault scheme NoMemory = Unit {0}
  IsLateFault scheme _ = ⊥
