pub mod Audits
pub mod Cuts
