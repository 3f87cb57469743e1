pub mod Texts
pub mod FirstNodes
pub mod Charts
