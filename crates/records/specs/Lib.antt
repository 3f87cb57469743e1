pub mod Sending
pub mod Unacknowledged
pub mod Records
pub mod Awaiting
pub mod Kept
pub mod Totals
