-- The seats of all threads at the nodes' desks. No public contract cites it.
use Rattle.std.specs.Prelude.{◌≡◌, ◌<◌, ℕ, All, List, [], ◌∷◌, ◌++◌, length, slice_get, Some}
use Rattle.protocol.specs.Input.{Input}
use Rattle.node_state.specs.Views.{SeatView}
use Rattle.sessions.specs.Orders.{HasOnly}

-- the inputs that the threads of a run have recorded
module _ (Takes : Input → Type 0) where
  -- the script's seat comes after those of the node's threads, whose records are all such inputs
  abbrev pub IsGathered : List SeatView → SeatView → Type 0
  IsGathered heard seat = (threads : List SeatView) × (heard ≡ threads ++ seat ∷ []) × All (HasOnly Takes) threads

  -- for each of the first nodes, the script's seat at its desk is among the seats of the node
  abbrev pub AreGatheredTo : ℕ → List SeatView → List (List SeatView) → Type 0
  AreGatheredTo at own all = (k : ℕ) (seat : SeatView) (heard : List SeatView) → k < at → slice_get own k ≡ Some seat → slice_get all k ≡ Some heard → IsGathered heard seat

  pub record AreGathered (own : List SeatView) (all : List (List SeatView)) : Type 0 where
    pub count : length all ≡ length own
    pub each : AreGatheredTo (length own) own all
