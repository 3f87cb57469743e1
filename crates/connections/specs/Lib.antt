pub mod LineEnds
pub mod Loopback
pub mod Waiting
