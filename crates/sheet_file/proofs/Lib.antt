pub mod Replies
pub mod Hours
pub mod Lengths
pub mod Back
