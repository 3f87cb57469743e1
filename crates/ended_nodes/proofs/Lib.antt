pub mod Settling
pub mod Reporting
