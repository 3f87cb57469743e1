-- Worked runs of the definitions in specs/, with values typed from what they say.
pub mod WorkedMessages
pub mod WorkedRounds
pub mod WorkedTrust
pub mod WorkedNextSchemes
