pub mod Messages
pub mod Reading
pub mod JournalFronts
