pub mod Transfers
pub mod Awaiting
pub mod Coding
pub mod Crediting
