pub mod Streams
pub mod Pieces
