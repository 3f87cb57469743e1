-- Parts of the nodes that a run leaves.
use Rattle.std.specs.Prelude.{List, map}
use Rattle.desk.specs.Keeping.{StoredView}
use Rattle.node_state.specs.Views.{StateView, SeatView}
use Rattle.ended_nodes.specs.declared.ended.EndedNode.{EndedNode}

abbrev pub states_of : {S : Type 0} → List (StoredView S) → List StateView
states_of nodes = map (λ n. n.state) nodes

-- the state of each node with its store
abbrev pub stored_in : {S : Type 0} → List (EndedNode S) → List (StoredView S)
stored_in ended = map (λ e. e.stored) ended

abbrev pub states_in : {S : Type 0} → List (EndedNode S) → List StateView
states_in ended = states_of (stored_in ended)

-- the seats of each node that have notes of its desk
abbrev pub seats_in : {S : Type 0} → List (EndedNode S) → List (List SeatView)
seats_in ended = map (λ e. e.seats.items) ended
