pub mod Views
pub mod Expected
pub mod Calls
pub mod Telling
pub mod Rooms
pub mod Loading
