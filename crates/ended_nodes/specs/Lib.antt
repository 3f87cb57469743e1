pub mod Ended
pub mod Settled
pub mod Reported
