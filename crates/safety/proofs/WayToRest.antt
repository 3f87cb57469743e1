-- From every world with room, events of transport lead to one at rest.
pub mod WakingNodes
pub mod SendingMessages
pub mod TakenMessages
pub mod TransferStages
pub mod ClosingTransfers
pub mod TransportToRest
