pub mod Commands
pub mod Obeying
pub mod Opened
pub mod Standing
pub mod Unopened
