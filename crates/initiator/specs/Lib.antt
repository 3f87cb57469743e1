pub mod Transfers
pub mod Coding
