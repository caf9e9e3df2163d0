pub mod Counting
pub mod Limits
