pub mod Knowing
pub mod Refusing
pub mod Finding
pub mod Following
