-- Families of histories in which each received message was sent: they agree about each transfer.
pub mod CausalHistories
pub mod CompletionsAgree
pub mod InitiatorRecords
