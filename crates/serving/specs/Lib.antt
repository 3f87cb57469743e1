pub mod Answers
pub mod Heard
pub mod Notes
pub mod Orders
pub mod Ends
pub mod Committed
