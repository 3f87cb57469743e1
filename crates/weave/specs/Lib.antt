pub mod Following
pub mod Steps
pub mod Kept
pub mod Left
pub mod Ahead
pub mod Cuts
