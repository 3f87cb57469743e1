pub mod Rows
pub mod Lines
pub mod Traces
pub mod Followed
