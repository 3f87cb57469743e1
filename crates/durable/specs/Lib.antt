pub mod CallFaults
pub mod Backing
pub mod Connected
pub mod Kept
pub mod Refusals
pub mod Stores
pub mod Opening
