pub mod Faults
pub mod SchemeFile
pub mod SetupFaults
