pub mod Closing
pub mod InFolder
