pub mod LateOnes
pub mod WaitingNumbers
