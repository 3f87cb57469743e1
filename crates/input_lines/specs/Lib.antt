pub mod Words
pub mod Verbs
pub mod Instructions
pub mod Named
pub mod EventLines
pub mod ScriptLines
pub mod Scripts
pub mod Lines
