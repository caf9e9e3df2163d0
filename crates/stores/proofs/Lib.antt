pub mod Passing
pub mod Pigeons
pub mod Places
pub mod RowPlaces
pub mod RowPosts
pub mod TablePosts
pub mod Tables
