pub mod Codes
pub mod NotifiedStatuses
pub mod Objects
pub mod Messages
pub mod Records
pub mod Reading
pub mod Writing
pub mod Replies
