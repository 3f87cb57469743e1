pub mod Covering
pub mod Settling
pub mod Counts
pub mod Replicas
