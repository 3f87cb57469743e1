-- The units that a scheme allots, that each unit is in one place and has one owner, and how owners move.
pub mod AllottedBlocks
pub mod SumsOverRegistries
pub mod UnitsInOnePlace
pub mod DueTransfers
pub mod UnitsWithOneOwner
pub mod AccountedUnits
pub mod OwnersAfterEvents
