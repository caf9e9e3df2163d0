pub mod Faults
pub mod Values
pub mod Sheets
pub mod Files
pub mod Writing
