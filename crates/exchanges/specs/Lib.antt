pub mod CountedView
pub mod Streams
pub mod Exchanges
pub mod Given
pub mod Sessions
pub mod ReadLines
pub use Rattle.streams.specs.Calls
pub mod Pieces
