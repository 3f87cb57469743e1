pub mod Rounds
pub mod RoundsLeft
pub mod Strangers
pub mod Trust
pub mod NumberOfUnits
pub mod NextScheme
