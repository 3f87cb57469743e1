pub mod Bits
pub mod KeyLines
pub mod TagLengths
