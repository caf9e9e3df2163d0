pub mod Calls
pub mod Posting
