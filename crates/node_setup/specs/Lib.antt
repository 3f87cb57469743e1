pub mod Peers
pub mod Setups
pub mod Sums
pub mod Words
