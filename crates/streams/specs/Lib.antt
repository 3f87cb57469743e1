pub mod SplitterView
pub mod Lines
pub mod FirstLine
pub mod Splitting
pub mod Calls
pub mod Inputs
