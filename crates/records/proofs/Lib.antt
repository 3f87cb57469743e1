pub mod Sendings
pub mod AwaitingMessages
pub mod KeptTables
pub mod LeastKeys
