pub mod Lives
pub mod Reading
pub mod Operating
pub mod Turns
