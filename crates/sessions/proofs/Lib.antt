mod GivenBack
mod SentMessages
pub mod Taking
pub mod WorkedPauses
pub mod WorkedThreads
