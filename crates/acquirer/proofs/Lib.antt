pub mod Tables
pub mod AwaitedTransfers
pub mod EntriesInOrder
