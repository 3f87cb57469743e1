pub mod Words
pub mod Subcommands
