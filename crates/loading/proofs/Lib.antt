pub mod Loaded
pub mod Tables
pub mod WovenCores
pub mod Pairs
