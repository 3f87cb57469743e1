pub mod Wiring
pub mod Gathered
pub mod Runs
