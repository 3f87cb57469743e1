pub mod Facts
pub mod Id
pub mod Moment
pub mod Status
pub mod Rows
pub mod Content
pub mod Order
