pub mod Cores
pub mod Stations
pub mod Kept
pub mod RegistryLines
pub mod Stocks
pub mod Transfers
pub mod Reached
