pub mod CountedPlaces
pub mod NotesOfSeats
pub mod FollowedRecords
pub mod JudgedNotes
