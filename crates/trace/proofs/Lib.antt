pub mod RowLines
pub mod PostedMessages
pub mod GivenInputs
pub mod EventRows
