pub mod Log
pub mod Readings
pub mod Kept
pub mod Taking
pub mod Effects
pub mod Transfers
pub mod Cleaning
