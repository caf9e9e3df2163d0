pub mod Rows
pub mod Listings
