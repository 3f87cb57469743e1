pub mod AcceptFaults
pub mod Addresses
