pub mod Runs
pub mod Objects
pub mod Listing
