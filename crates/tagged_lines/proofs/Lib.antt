pub mod FirstLines
pub mod Senders
pub mod GivenOut
pub mod Replies
