pub mod Records
pub mod Facts
pub mod Dues
pub mod Sameness
pub mod Lists
pub mod Workings
