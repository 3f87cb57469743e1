pub mod Lines
pub mod Replies
pub mod Served
pub mod Cuts
pub mod Heard
