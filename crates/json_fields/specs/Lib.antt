pub mod Fields
pub mod Found
pub mod Objects
pub mod Writing
