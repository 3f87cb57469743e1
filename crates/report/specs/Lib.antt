pub mod NumberOfUnits
pub mod ReportLines
pub mod Table
