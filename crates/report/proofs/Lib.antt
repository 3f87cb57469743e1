pub mod LinesOfHoldings
pub mod DueTransfers
pub mod TonnesAddUp
pub mod Texts
mod Objects
pub mod CountedUnits
mod SafeTables
pub mod NumberedLines
