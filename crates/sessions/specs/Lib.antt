pub mod Delivering
pub mod Directions
pub mod Orders
pub mod Pauses
pub mod Sending
pub mod Serving
pub mod Threads
