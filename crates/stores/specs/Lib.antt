pub mod Room
pub mod Limits
pub mod Words
pub mod TableLaws
pub mod Rows
pub mod RowLaws
pub mod Stores
