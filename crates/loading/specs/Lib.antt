pub mod Stores
pub mod Runs
pub mod Opened
