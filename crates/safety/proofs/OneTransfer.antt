-- One transfer at its three nodes, in a causal family of histories.
pub mod SentByTransitions
pub mod MessageRows
pub mod StagesAtNodes
pub mod EndsThatStay
pub mod OwedUnits
