-- The next scheme of a world: its opening world has each unit where the old world has it.
pub mod OpeningHistories
pub mod UnitsKept
pub mod SchemesAlike
pub mod OwnOpening
