pub mod Told
pub mod NoFault
pub mod OneRehearsal
