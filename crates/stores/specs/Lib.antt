pub mod Readiness
pub mod Faults
pub mod FaultTexts
pub mod Records
pub mod Calls
pub mod Bodies
pub mod Memories
