pub mod Kinds
pub mod Arrivals
pub mod OneTable
