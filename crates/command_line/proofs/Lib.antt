pub mod WorkedWords
pub mod UsageFaults
pub mod SubcommandTables
pub mod SubcommandWords
