pub mod Keepings
pub mod AtDesks
