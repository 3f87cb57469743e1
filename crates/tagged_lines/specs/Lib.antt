pub mod Lines
pub mod Opened
pub mod Views
pub mod Opening
pub mod Sent
