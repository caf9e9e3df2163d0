pub mod Arguments
pub mod Posting
