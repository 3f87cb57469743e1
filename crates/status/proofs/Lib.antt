pub mod Ids
pub mod Contents
pub mod Orders
pub mod IdOrder
pub mod UnitsOfContents
