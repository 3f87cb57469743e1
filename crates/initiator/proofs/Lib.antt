pub mod Tables
pub mod Reserving
