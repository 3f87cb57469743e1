-- The history of the log by itself, for all messages that it receives.
pub mod LogHearings
pub mod LogInputs
pub mod OwnersInLog
pub mod LogSendings
pub mod CleanedInOrder
pub mod KnownContents
