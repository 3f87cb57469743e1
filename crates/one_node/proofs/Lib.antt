pub mod Ending
pub mod Forgetting
pub mod Going
pub mod HeldLines
pub mod Possible
pub mod Stepping
pub mod Turning
pub mod Words
