pub mod Indices
pub mod Wired
pub mod Collected
pub mod Opened
pub mod Reported
pub mod Written
pub mod WorkedOrders
