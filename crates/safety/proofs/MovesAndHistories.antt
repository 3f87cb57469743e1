-- The transitions that the tables make, and the histories of any node that they make up.
pub mod TransitionForms
pub mod TableRows
pub mod TableMoves
pub mod RefusalCauses
pub mod NewestTransitions
pub mod LongerHistories
pub mod MessageSenders
