pub mod Report
pub mod Rehearsal
