pub mod Runs
pub mod Reported
