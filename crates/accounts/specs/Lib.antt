pub mod Holdings
pub mod Refusals
pub mod Lines
pub mod Accounts
pub mod Coding
pub mod Tables
pub mod Reservations
